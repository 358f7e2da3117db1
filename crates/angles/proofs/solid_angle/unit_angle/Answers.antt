-- `angles::solid_angle::unit_angle` meets its contract: its test is that of the definition.
use lib.Ieee.{of_bits}
use Rattle.spec_angles.specs.Winding.{unit_angle}
use Rattle.angles.proofs.solid_angle.unit_angle.Goals as goal

pub returns-then-numerator : goal.returns-then-numerator
unfolding unit_angle of_bits
returns-then-numerator c = rw (rw c.numerator_of-numerator.ensures at c.if-numerator.true)

pub returns : goal.returns
unfolding unit_angle of_bits
returns c =
    rw (
      c.angle_by.ensures,
      c.denominator_of.ensures,
      rw c.numerator_of-numerator.ensures at c.if-numerator.false,
      c.numerator_of-numerator.ensures,
    )
