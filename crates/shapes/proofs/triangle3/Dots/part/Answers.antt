-- `shapes::triangle3::Dots::part` meets its contract: at each return the tests before have failed and this one has passed.
use lib.Ieee.{of_bits}
use Rattle.spec_shapes.specs.Triangles.{part}
use Rattle.shapes.proofs.triangle3.Dots.part.Goals as goal

pub returns-then-self : goal.returns-then-self
unfolding part of_bits
returns-then-self c = rw c.if-self.true

pub returns-then-self-2 : goal.returns-then-self-2
unfolding part of_bits
returns-then-self-2 c = rw (c.if-self.false, c.if-self-2.true)

pub returns-then-vc-self : goal.returns-then-vc-self
unfolding part of_bits
returns-then-vc-self c =
    rw (c.if-self.false, c.if-self-2.false, ← c.vc.ensures, c.if-vc-self.true)

pub returns-then-self-3 : goal.returns-then-self-3
unfolding part of_bits
returns-then-self-3 c =
    rw (c.if-self.false, c.if-self-2.false, ← c.vc.ensures, c.if-vc-self.false, c.if-self-3.true)

pub returns-then-vb-self : goal.returns-then-vb-self
unfolding part of_bits
returns-then-vb-self c =
    rw (c.if-self.false, c.if-self-2.false, ← c.vc.ensures, c.if-vc-self.false, c.if-self-3.false, ← c.vb.ensures, c.if-vb-self.true)

pub returns-then-va-self : goal.returns-then-va-self
unfolding part of_bits
returns-then-va-self c =
    rw (
      c.if-self.false,
      c.if-self-2.false,
      ← c.vc.ensures,
      c.if-vc-self.false,
      c.if-self-3.false,
      ← c.vb.ensures,
      c.if-vb-self.false,
      ← c.va.ensures,
      c.if-va-self.true,
    )

pub returns : goal.returns
unfolding part of_bits
returns c =
    rw (
      c.if-self.false,
      c.if-self-2.false,
      ← c.vc.ensures,
      c.if-vc-self.false,
      c.if-self-3.false,
      ← c.vb.ensures,
      c.if-vb-self.false,
      ← c.va.ensures,
      c.if-va-self.false,
    )
