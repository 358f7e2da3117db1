-- `splits::costs::right_sides` meets its contract. The invariant: `right` is the side behind bucket i, and the sides from there on are stored.
use lib.Ieee.{binary32}
use Rattle.spec_splits.proofs.Sweeps.{Down}
use Rattle.splits.specs.Values.{as_bucket}
use Rattle.splits.proofs.costs.right_sides.Given as goal

abbrev pub invariant-loop-i : goal.invariant-loop-i
invariant-loop-i l = Down as_bucket binary32 l.buckets.each l.sides.each (as_bucket l.right) l.i
