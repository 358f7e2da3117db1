-- The shapes of the code as the records that the definitions speak of. The contracts compare by these.
use Rattle.spec_numbers.specs.Axes as Axes
use Rattle.spec_shapes.specs.Points.{Point}
use Rattle.shapes.specs.declared.vec3.Vec3.{Vec3}
use Rattle.shapes.specs.declared.vec3.Axis.{Axis}
use Rattle.shapes.specs.declared.vec3.Axis.TheVariants.{X, Y, Z}
use Rattle.spec_shapes.specs.Boxes.{Box}
use Rattle.shapes.specs.declared.box3.Box3.{Box3}
use Rattle.spec_shapes.specs.Triangles as Triangles
use Rattle.shapes.specs.declared.triangle3.Triangle3.{Triangle3}
use Rattle.shapes.specs.declared.triangle3.Dots.{Dots}
use Rattle.shapes.specs.declared.triangle3.Spot.{Spot}
use Rattle.shapes.specs.declared.triangle3.Part.{Part}
use Rattle.shapes.specs.declared.triangle3.Part.TheVariants.{Face, CornerA, CornerB, CornerC, EdgeAB, EdgeAC, EdgeBC}
use Rattle.spec_shapes.specs.Planes.{Plane}
use Rattle.shapes.specs.declared.plane3.Plane3.{Plane3}

abbrev pub as_axis : Axis → Axes.Axis
as_axis X = Axes.X
as_axis Y = Axes.Y
as_axis Z = Axes.Z

abbrev pub as_point : Vec3 → Point
as_point v = record { x = v.x; y = v.y; z = v.z }

abbrev pub as_box : Box3 → Box
as_box b = record { min = as_point b.min; max = as_point b.max }

abbrev pub as_triangle : Triangle3 → Triangles.Triangle
as_triangle t = record { a = as_point t.a; b = as_point t.b; c = as_point t.c }

abbrev pub as_dots : Dots → Triangles.Dots
as_dots d = record { d1 = d.d1; d2 = d.d2; d3 = d.d3; d4 = d.d4; d5 = d.d5; d6 = d.d6 }

abbrev pub as_part : Part → Triangles.Part
as_part Face = Triangles.face
as_part CornerA = Triangles.corner_a
as_part CornerB = Triangles.corner_b
as_part CornerC = Triangles.corner_c
as_part EdgeAB = Triangles.edge_ab
as_part EdgeAC = Triangles.edge_ac
as_part EdgeBC = Triangles.edge_bc

abbrev pub as_spot : Spot → Triangles.Spot
as_spot s = record { point = as_point s.point; part = as_part s.part }

abbrev pub as_plane : Plane3 → Plane
as_plane p = record { normal = as_point p.normal; distance = p.distance }
