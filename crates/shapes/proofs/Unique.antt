-- No two shapes of the code stand for the same shape of the definitions. So a contract that fixes what a shape stands for fixes the shape.
use mathlib.Core.Path.{◌≡◌, ap, refl, sym, ◌∙◌}
use Rattle.spec_shapes.specs.Points.{Point}
use Rattle.shapes.specs.declared.vec3.Vec3.{Vec3}
use Rattle.shapes.specs.Values.{as_point, as_box, as_triangle, as_dots, as_part, as_spot, as_plane}
use Rattle.spec_shapes.specs.Boxes.{Box}
use Rattle.shapes.specs.declared.box3.Box3.{Box3}
use Rattle.spec_shapes.specs.Triangles as Triangles
use Rattle.shapes.specs.declared.triangle3.Triangle3.{Triangle3}
use Rattle.shapes.specs.declared.triangle3.Dots.{Dots}
use Rattle.shapes.specs.declared.triangle3.Spot.{Spot}
use Rattle.shapes.specs.declared.triangle3.Part.{Part}
use Rattle.shapes.specs.declared.triangle3.Part.TheVariants.{Face, CornerA, CornerB, CornerC, EdgeAB, EdgeAC, EdgeBC}
use Rattle.spec_shapes.specs.Planes.{Plane}
use Rattle.shapes.specs.declared.plane3.Plane3.{Plane3}

-- the point that these coordinates stand for
abbrev pub back_point : Point → Vec3
back_point p = record { x = p.x; y = p.y; z = p.z }

-- what a point stands for fixes it
pub point_unique : (a b : Vec3) → as_point a ≡ as_point b → a ≡ b
point_unique a b e = ap back_point e

-- the box that these corners stand for
abbrev pub back_box : Box → Box3
back_box b = record { min = back_point b.min; max = back_point b.max }

-- what a box stands for fixes it
pub box_unique : (a b : Box3) → as_box a ≡ as_box b → a ≡ b
box_unique a b e = ap back_box e

abbrev back_triangle : Triangles.Triangle → Triangle3
back_triangle t = record { a = back_point t.a; b = back_point t.b; c = back_point t.c }

-- what a triangle stands for fixes it
pub triangle_unique : (a b : Triangle3) → as_triangle a ≡ as_triangle b → a ≡ b
triangle_unique a b e = ap back_triangle e

abbrev back_dots : Triangles.Dots → Dots
back_dots d = record { d1 = d.d1; d2 = d.d2; d3 = d.d3; d4 = d.d4; d5 = d.d5; d6 = d.d6 }

-- what the dot products stand for fixes them
pub dots_unique : (a b : Dots) → as_dots a ≡ as_dots b → a ≡ b
dots_unique a b e = ap back_dots e

abbrev back_part : Triangles.Part → Part
back_part Triangles.face = Face
back_part Triangles.corner_a = CornerA
back_part Triangles.corner_b = CornerB
back_part Triangles.corner_c = CornerC
back_part Triangles.edge_ab = EdgeAB
back_part Triangles.edge_ac = EdgeAC
back_part Triangles.edge_bc = EdgeBC

part_is : (a : Part) → back_part (as_part a) ≡ a
part_is Face = refl
part_is CornerA = refl
part_is CornerB = refl
part_is CornerC = refl
part_is EdgeAB = refl
part_is EdgeAC = refl
part_is EdgeBC = refl

-- what the closest part stands for fixes it
pub part_unique : (a b : Part) → as_part a ≡ as_part b → a ≡ b
part_unique a b e = sym (part_is a) ∙ ap back_part e ∙ part_is b

-- what a spot stands for fixes it
pub spot_unique : (a b : Spot) → as_spot a ≡ as_spot b → a ≡ b
spot_unique a b e =
    ap (λ (part : Part). record { point = a.point; part = part }) (part_unique a.part b.part (ap (λ (s : Triangles.Spot). s.part) e))
    ∙ ap (λ (point : Vec3). record { point = point; part = b.part }) (ap (λ (s : Triangles.Spot). back_point s.point) e)

abbrev back_plane : Plane → Plane3
back_plane p = record { normal = back_point p.normal; distance = p.distance }

-- what a plane stands for fixes it
pub plane_unique : (a b : Plane3) → as_plane a ≡ as_plane b → a ≡ b
plane_unique a b e = ap back_plane e
