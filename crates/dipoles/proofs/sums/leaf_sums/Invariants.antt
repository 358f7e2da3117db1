-- `dipoles::sums::leaf_sums` meets its contract: before each turn the sums, with the rest of the slice, are those of the whole leaf.
use lib.Ieee.{binary32}
use Rattle.spec_lists.specs.Reading.{triangle_at}
use Rattle.spec_dipoles.proofs.Leaves.{Summing}
use Rattle.dipoles.specs.Values.{as_sums}
use Rattle.dipoles.proofs.sums.leaf_sums.Given as goal

abbrev pub invariant-loop-t : goal.invariant-loop-t
invariant-loop-t l = Summing binary32 (triangle_at l.triangles) l.slice (as_sums l.sums) l.t-index
