-- `dipoles::walk::slice_winding` meets its contract. The invariant: `sum` is that of the solid angles so far.
use lib.Ieee.{of_bits}
use Rattle.spec_lists.proofs.Reading.{triangle_inside}
use Rattle.spec_angles.proofs.Windings.{sum_start, sum_more}
use Rattle.spec_dipoles.proofs.Windings.{slice_end}
use Rattle.dipoles.proofs.walk.slice_winding.Goals as goal

pub loop-t-init : goal.loop-t-init
unfolding of_bits
loop-t-init c = sum_start _ _ _ _

pub triangle_at-requires : goal.triangle_at-requires
triangle_at-requires c = triangle_inside _ _ (c.requires c.loop-t.t-index c.loop-t-test.true)

pub loop-t-preserved : goal.loop-t-preserved
loop-t-preserved c =
    sum_more _ _ _ _ _ _ _ _ c.loop-t-test.true c.loop-t.invariant c.triangle_at.ensures c.solid_angle_by-sum.ensures

pub returns : goal.returns
unfolding of_bits
returns c = slice_end _ _ _ _ _ _ c.loop-t-test.false c.loop-t.invariant
