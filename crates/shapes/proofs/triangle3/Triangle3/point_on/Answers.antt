-- `shapes::triangle3::Triangle3::point_on` meets its contract, in each arm.
use Rattle.spec_shapes.specs.Triangles.{point_on}
use Rattle.shapes.proofs.triangle3.Triangle3.point_on.Goals as goal

pub returns-in-Face : goal.returns-in-Face
unfolding point_on
returns-in-Face c = rw (c.in-Face.is, c.point_in_face.ensures)

pub returns-in-CornerA : goal.returns-in-CornerA
unfolding point_on
returns-in-CornerA c = rw c.in-CornerA.is

pub returns-in-CornerB : goal.returns-in-CornerB
unfolding point_on
returns-in-CornerB c = rw c.in-CornerB.is

pub returns-in-CornerC : goal.returns-in-CornerC
unfolding point_on
returns-in-CornerC c = rw c.in-CornerC.is

pub returns-in-EdgeAB : goal.returns-in-EdgeAB
unfolding point_on
returns-in-EdgeAB c = rw (c.in-EdgeAB.is, c.along.ensures, c.minus.ensures)

pub returns-in-EdgeAC : goal.returns-in-EdgeAC
unfolding point_on
returns-in-EdgeAC c = rw (c.in-EdgeAC.is, c.along-in-EdgeAC.ensures, c.minus-in-EdgeAC.ensures)

pub returns-in-EdgeBC : goal.returns-in-EdgeBC
unfolding point_on
returns-in-EdgeBC c = rw (c.in-EdgeBC.is, c.along-in-EdgeBC.ensures, c.minus-in-EdgeBC.ensures)
