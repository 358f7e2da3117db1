-- `shapes::vec3::Vec3::plus` meets its contract: the operation on each axis.
use Rattle.std.proofs.Common.{rules}
use Rattle.spec_shapes.specs.Points.{plus}
use Rattle.shapes.proofs.Coordinates.{by_coordinates}
use Rattle.shapes.proofs.vec3.Vec3.plus.Goals as goal

pub returns : goal.returns
unfolding plus
returns c = by_coordinates _ _ (search rules) (search rules) (search rules)
