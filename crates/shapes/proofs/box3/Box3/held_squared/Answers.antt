-- `shapes::box3::Box3::held_squared` meets its contract, of the point that `hold` ensures.
use Rattle.spec_shapes.specs.Boxes.{held_squared}
use Rattle.shapes.proofs.box3.Box3.held_squared.Goals as goal

pub returns : goal.returns
unfolding held_squared
returns c = rw (c.squared_distance.ensures, c.hold.ensures)
