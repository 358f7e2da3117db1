-- `shapes::box3::Box3::offset` meets its contract: what `offset_on` ensures, on each axis.
use Rattle.spec_shapes.specs.Boxes.{offset}
use Rattle.shapes.proofs.box3.Box3.offset.Goals as goal

pub returns : goal.returns
unfolding offset
returns c = λ i. record { x = c.offset_on.ensures i; y = c.offset_on-2.ensures i; z = c.offset_on-3.ensures i }
