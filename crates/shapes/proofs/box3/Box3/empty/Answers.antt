-- `shapes::box3::Box3::empty` meets its contract: the library's constants are the largest number and its opposite.
use lib.Ieee.{of_bits, neg}
use Rattle.spec_shapes.specs.Boxes.{empty}
use Rattle.shapes.proofs.box3.Box3.empty.Goals as goal

pub returns : goal.returns
unfolding empty of_bits neg
returns c = rw (c.splat.ensures, c.splat-2.ensures)
