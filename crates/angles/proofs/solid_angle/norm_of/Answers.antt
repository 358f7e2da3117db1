-- `angles::solid_angle::norm_of` meets its contract: the root of the dot with itself.
use Rattle.spec_angles.specs.Winding.{norm}
use Rattle.angles.proofs.solid_angle.norm_of.Goals as goal

pub returns : goal.returns
unfolding norm
returns c = rw (c.root_or_nan.ensures, c.dot.ensures)
