-- `shapes::triangle3::Triangle3::dots` meets its contract: what each `dot` ensures, of the differences that `minus` ensures.
use Rattle.spec_shapes.specs.Triangles.{dots}
use Rattle.shapes.proofs.triangle3.Triangle3.dots.Goals as goal

pub returns : goal.returns
unfolding dots
returns c =
    rw (
      c.dot-6.ensures,
      c.dot-5.ensures,
      c.dot-4.ensures,
      c.dot-3.ensures,
      c.dot-2.ensures,
      c.dot.ensures,
      c.minus-cp.ensures,
      c.minus-bp.ensures,
      c.minus-ap.ensures,
      c.minus-ac.ensures,
      c.minus-ab.ensures,
    )
