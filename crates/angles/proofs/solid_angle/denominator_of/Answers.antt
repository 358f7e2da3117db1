-- `angles::solid_angle::denominator_of` meets its contract: one and the three dots, from the left.
use lib.Ieee.{of_bits}
use Rattle.spec_angles.specs.Winding.{denominator}
use Rattle.angles.proofs.solid_angle.denominator_of.Goals as goal

pub returns : goal.returns
unfolding denominator of_bits
returns c = rw (c.dot-3.ensures, c.dot-2.ensures, c.dot.ensures)
