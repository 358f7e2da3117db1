-- `shapes::vec3::Vec3::is_finite` meets its contract: what `is_finite` ensures, on each axis.
use Rattle.spec_shapes.specs.Points.{is_finite}
use Rattle.shapes.proofs.vec3.Vec3.is_finite.Goals as goal

pub returns : goal.returns
unfolding is_finite
returns c = rw (c.is_finite.ensures, c.is_finite-2.ensures, c.is_finite-3.ensures)
