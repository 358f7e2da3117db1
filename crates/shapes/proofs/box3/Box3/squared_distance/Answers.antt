-- `shapes::box3::Box3::squared_distance` meets its contract: what `with_outside` ensures, axis after axis.
use lib.Ieee.{of_bits}
use Rattle.spec_shapes.specs.Boxes.{box_squared}
use Rattle.shapes.proofs.box3.Box3.squared_distance.Goals as goal

pub returns : goal.returns
unfolding box_squared of_bits
returns c = rw (c.with_outside.ensures, c.with_outside-xy.ensures, c.with_outside-x.ensures)
