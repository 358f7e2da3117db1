-- `shapes::vec3::Vec3::squared_distance` meets its contract: the dot of the difference that `minus` ensures.
use Rattle.spec_shapes.specs.Points.{squared_distance}
use Rattle.shapes.proofs.vec3.Vec3.squared_distance.Goals as goal

pub returns : goal.returns
unfolding squared_distance
returns c = rw (c.dot.ensures, c.minus-d.ensures)
