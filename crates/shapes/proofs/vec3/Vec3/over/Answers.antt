-- `shapes::vec3::Vec3::over` meets its contract: the operation on each axis.
use Rattle.std.proofs.Common.{rules}
use Rattle.spec_shapes.specs.Points.{divided_by}
use Rattle.shapes.proofs.Coordinates.{by_coordinates}
use Rattle.shapes.proofs.vec3.Vec3.over.Goals as goal

pub returns : goal.returns
unfolding divided_by
returns c = by_coordinates _ _ (search rules) (search rules) (search rules)
