-- `shapes::box3::with_excess` meets its contract: each arm returns what the test picks.
use Rattle.spec_shapes.specs.Boxes.{with_excess}
use Rattle.shapes.proofs.box3.with_excess.Goals as goal

pub returns-then-near-far : goal.returns-then-near-far
unfolding with_excess
returns-then-near-far c = rw c.if-near-far.true

pub returns-else-near-far : goal.returns-else-near-far
unfolding with_excess
returns-else-near-far c = rw c.if-near-far.false
