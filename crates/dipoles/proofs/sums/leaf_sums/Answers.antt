-- `dipoles::sums::leaf_sums` meets its contract: before each turn the sums, with the rest of the slice, are those of the whole leaf.
use Rattle.spec_lists.proofs.Reading.{triangle_inside}
use Rattle.spec_dipoles.proofs.Leaves.{summing_starts}
use Rattle.dipoles.proofs.sums.leaf_sums.Goals as goal

pub loop-t-init : goal.loop-t-init
loop-t-init c = summing_starts _ _ _ _ c.no_sums-sums.ensures

pub with_next-sums-requires : goal.with_next-sums-requires
with_next-sums-requires c = triangle_inside _ _ (c.requires c.loop-t.t-index c.loop-t-test.true)
