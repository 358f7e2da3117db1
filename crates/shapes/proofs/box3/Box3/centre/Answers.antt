-- `shapes::box3::Box3::centre` meets its contract: the sum that `plus` ensures, over two.
use lib.Ieee.{of_bits}
use Rattle.spec_shapes.specs.Boxes.{centre}
use Rattle.shapes.proofs.box3.Box3.centre.Goals as goal

pub returns : goal.returns
unfolding centre of_bits
returns c = rw (c.over.ensures, c.plus.ensures)
