-- No two answers about a depth stand for the same of the definitions.
use Rattle.std.proofs.Common.{◌≡◌, ℕ, ap}
use Rattle.std.specs.Prelude.{Result, Ok, Err}
use Rattle.lists.specs.declared.refusal.Refusal.{Refusal}
use Rattle.lists.specs.Values.{number_of, place_of}
use Rattle.lists.proofs.Unique.{refusal_unique}
use Rattle.tree.specs.Values.{as_depth_found}

-- what a depth stands for fixes it
pub depth_unique : (a b : Result ℕ Refusal) → as_depth_found a ≡ as_depth_found b → a ≡ b
depth_unique (Ok m) (Ok n) e = let s : m ≡ n = cc in ap Ok s
depth_unique (Ok m) (Err r) e = cc
depth_unique (Err r) (Ok n) e = cc
depth_unique (Err r) (Err q) e =
    let n : number_of r ≡ number_of q = cc in
    let p : place_of r ≡ place_of q = cc in
    ap Err (refusal_unique r q n p)
