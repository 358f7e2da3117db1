-- `splits::costs::costs_of` meets its contract. The invariant: `left` is the side before bucket i, and the costs stored so far are those of the cuts.
use Rattle.std.proofs.Common.{◌≡◌, ℕ, ◌<◌, length, get_or}
use lib.Ieee.{binary32, nan}
use Rattle.shapes.specs.Values.{as_box}
use Rattle.spec_splits.specs.Area.{cost_at}
use Rattle.spec_splits.proofs.Sweeps.{Up}
use Rattle.splits.specs.Values.{as_bucket, as_buckets}
use Rattle.splits.proofs.costs.costs_of.Given as goal

abbrev pub invariant-loop-i : goal.invariant-loop-i
invariant-loop-i l =
    Up as_bucket binary32 l.buckets.each (as_bucket l.left) l.i
    × ((length l.costs ≡ 11) × ((k : ℕ) → k < l.i → get_or l.costs k nan ≡ cost_at binary32 (as_box l.parent) (as_buckets l.buckets) k))
