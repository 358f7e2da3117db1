-- `shapes::triangle3::foot_part` meets its contract: each arm returns what the test picks.
use lib.Ieee.{of_bits}
use Rattle.spec_shapes.specs.Triangles.{foot_part}
use Rattle.shapes.proofs.triangle3.foot_part.Goals as goal

pub returns-then-dot : goal.returns-then-dot
unfolding foot_part of_bits
returns-then-dot c = rw (← c.minus-side.ensures, ← c.dot.ensures, c.if-dot.true)

pub returns-else-dot : goal.returns-else-dot
unfolding foot_part of_bits
returns-else-dot c = rw (← c.minus-side.ensures, ← c.dot.ensures, c.if-dot.false)
