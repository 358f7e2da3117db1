-- Buckets in an array: how many there are, and what the logic reads past their end.
use Rattle.std.proofs.Common.{◌≡◌, ℕ, List, map, length, sym, ◌∙◌}
use lib.ListN.{length-map}
use lib.Ieee.{nan}
use Rattle.shapes.specs.declared.vec3.Vec3.{Vec3}
use Rattle.splits.specs.declared.buckets.Bucket.{Bucket}

-- a loop over the buckets needs their number, and the contract speaks of what each stands for
pub unmapped : (X Y : Type 0) (g : X → Y) (l : List X) (n : ℕ) → length (map g l) ≡ n → length l ≡ n
unmapped X Y g l n e = sym (length-map l g) ∙ e

abbrev no_numbers : Vec3
no_numbers = record { x = nan; y = nan; z = nan }

abbrev pub no_bucket : Bucket
no_bucket = record { count = 0; bounds = record { min = no_numbers; max = no_numbers } }
