-- `shapes::box3::Box3::closest_point` meets its contract: what `largest` and then `smallest` ensure.
use Rattle.spec_shapes.specs.Boxes.{closest_in_box}
use Rattle.shapes.proofs.box3.Box3.closest_point.Goals as goal

pub returns : goal.returns
unfolding closest_in_box
returns c = rw (c.smallest.ensures, c.largest.ensures)
