-- `shapes::box3::Box3::contains_point` meets its contract: what `is_under` ensures of both corners.
use Rattle.spec_shapes.specs.Boxes.{contains_point}
use Rattle.shapes.proofs.box3.Box3.contains_point.Goals as goal

pub returns : goal.returns
unfolding contains_point
returns c = rw (c.is_under.ensures, c.is_under-2.ensures)
