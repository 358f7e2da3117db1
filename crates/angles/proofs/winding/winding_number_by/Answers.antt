-- `angles::winding::winding_number_by` meets its contract. The invariant: `sum` is that of the first t solid angles.
use Rattle.std.proofs.Common.{◌∙◌, arith}
use lib.Ieee.{of_bits}
use Rattle.spec_lists.specs.Reading.{triangle_count}
use Rattle.spec_angles.proofs.Windings.{sum_start, sum_more, sum_end, number_about}
use Rattle.angles.proofs.winding.winding_number_by.Goals as goal

pub loop-t-init : goal.loop-t-init
unfolding of_bits
loop-t-init c = sum_start _ _ _ _

pub triangle_at-requires : goal.triangle_at-requires
unfolding triangle_count
triangle_at-requires c = omega (arith, c.triangle_count-t-end.ensures)

pub loop-t-preserved : goal.loop-t-preserved
loop-t-preserved c =
    sum_more _ _ _ _ _ _ _ _ c.loop-t-test.true c.loop-t.invariant c.triangle_at.ensures
    c.solid_angle_by-sum.ensures

pub returns : goal.returns
unfolding of_bits
returns c =
    sum_end _ _ _ _ _ _ c.loop-t-test.false c.loop-t.invariant
    ∙ number_about _ _ _ _ c.triangle_count-t-end.ensures
