-- `shapes::box3::offset_on` meets its contract: each arm returns what the test picks.
use Rattle.spec_shapes.specs.Boxes.{offset_on}
use Rattle.shapes.proofs.box3.offset_on.Goals as goal

pub returns-then-hi-lo : goal.returns-then-hi-lo
unfolding offset_on
returns-then-hi-lo c = rw c.if-hi-lo.true

pub returns-else-hi-lo : goal.returns-else-hi-lo
unfolding offset_on
returns-else-hi-lo c = rw c.if-hi-lo.false
