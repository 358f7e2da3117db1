-- `angles::solid_angle::solid_angle_by` meets its contract: the triangle seen from the point, then its angle.
use Rattle.spec_angles.specs.Winding.{solid_angle}
use Rattle.angles.proofs.solid_angle.solid_angle_by.Goals as goal

pub returns : goal.returns
unfolding solid_angle
returns c = rw (c.origin_angle.ensures, c.seen_from.ensures)
