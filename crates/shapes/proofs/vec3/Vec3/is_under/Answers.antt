-- `shapes::vec3::Vec3::is_under` meets its contract: the operation on each axis.
use mathlib.Core.Path.{refl}
use Rattle.spec_shapes.specs.Points.{is_under}
use Rattle.shapes.proofs.vec3.Vec3.is_under.Goals as goal

pub returns : goal.returns
unfolding is_under
returns c = refl
