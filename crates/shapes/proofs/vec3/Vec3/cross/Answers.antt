-- `shapes::vec3::Vec3::cross` meets its contract, operation by operation.
use mathlib.Core.Path.{refl}
use Rattle.spec_shapes.specs.Points.{cross}
use Rattle.shapes.proofs.vec3.Vec3.cross.Goals as goal

pub returns : goal.returns
unfolding cross
returns c = refl
