-- `shapes::triangle3::foot` meets its contract: the start where the edge has no length, else the point along it.
use lib.Ieee.{of_bits}
use Rattle.spec_shapes.specs.Triangles.{foot}
use Rattle.shapes.proofs.triangle3.foot.Goals as goal

pub returns-then-size : goal.returns-then-size
unfolding foot of_bits
returns-then-size c = rw (← c.minus-edge.ensures, ← c.dot-size.ensures, c.if-size.true)

pub returns : goal.returns
unfolding foot of_bits
returns c =
    rw (
      c.along.ensures,
      c.held.ensures,
      c.dot.ensures,
      c.minus.ensures,
      ← c.minus-edge.ensures,
      ← c.dot-size.ensures,
      c.if-size.false,
    )
