-- `shapes::vec3::Vec3::scale` meets its contract: the operation on each axis.
use Rattle.std.proofs.Common.{rules}
use Rattle.spec_shapes.specs.Points.{scale}
use Rattle.shapes.proofs.Coordinates.{by_coordinates}
use Rattle.shapes.proofs.vec3.Vec3.scale.Goals as goal

pub returns : goal.returns
unfolding scale
returns c = by_coordinates _ _ (search rules) (search rules) (search rules)
