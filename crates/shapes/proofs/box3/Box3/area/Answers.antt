-- `shapes::box3::Box3::area` meets its contract, of the sizes that `sizes` ensures.
use lib.Ieee.{of_bits}
use Rattle.spec_shapes.specs.Boxes.{area}
use Rattle.shapes.proofs.box3.Box3.area.Goals as goal

pub returns : goal.returns
unfolding area of_bits
returns c = rw (← c.sizes-d.ensures)
