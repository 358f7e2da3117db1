-- `shapes::triangle3::Triangle3::point_in_face` meets its contract: what each call ensures, put in.
use lib.Ieee.{of_bits}
use Rattle.spec_shapes.specs.Triangles.{face_point}
use Rattle.shapes.proofs.triangle3.Triangle3.point_in_face.Goals as goal

pub returns : goal.returns
unfolding face_point of_bits
returns c =
    rw (
      c.along.ensures,
      c.minus-2.ensures,
      c.along-on_ab.ensures,
      c.minus.ensures,
      c.va.ensures,
      c.vc-vc.ensures,
      c.vb-vb.ensures,
    )
