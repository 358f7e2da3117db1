-- `shapes::vec3::Vec3::dot` meets its contract: the operation on each axis.
use mathlib.Core.Path.{refl}
use Rattle.spec_shapes.specs.Points.{dot}
use Rattle.shapes.proofs.vec3.Vec3.dot.Goals as goal

pub returns : goal.returns
unfolding dot
returns c = refl
