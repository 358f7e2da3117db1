-- `angles::solid_angle::numerator_of` meets its contract: the dot of a corner and the cross of two sides.
use Rattle.spec_angles.specs.Winding.{numerator}
use Rattle.angles.proofs.solid_angle.numerator_of.Goals as goal

pub returns : goal.returns
unfolding numerator
returns c = rw (c.dot.ensures, c.cross.ensures, c.minus-2.ensures, c.minus.ensures)
