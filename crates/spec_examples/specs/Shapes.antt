-- E1 to E7: boxes, and the closest points of a plain and of a pinched triangle, each with the part that was hit.
use Rattle.std.specs.Prelude.{false, List, [], ◌∷◌, ℕ, ℤ, pos, negsuc, Float}
use Rattle.std.specs.Float.{Format, fin, nan}
use Rattle.std.specs.Float.Ieee.{of_int}
use Rattle.spec_shapes.specs.Points.{Point, squared_distance}
use Rattle.spec_shapes.specs.Boxes.{Box, box_squared, area, volume, offset}
use Rattle.spec_shapes.specs.Triangles.{Triangle, Spot, part_number, closest_spot, held_spot}
use Rattle.spec_examples.specs.Table.{Example, Shown, float, whole, row}

module _ (f : Format) where
  abbrev pub point : ℤ → ℤ → ℤ → Point
  point x y z = record { x = of_int f x; y = of_int f y; z = of_int f z }

  abbrev pub box_to : Point → Box
  box_to corner = record { min = point (pos 0) (pos 0) (pos 0); max = corner }

  -- the numbers of a point and of a squared distance, and the part
  abbrev pub listed : Point → Float → ℕ → List Shown
  listed q squared part = float q.x ∷ float q.y ∷ float q.z ∷ float squared ∷ whole (pos part) ∷ []

  -- a spot, seen from p
  abbrev pub spot_row : Point → Spot → List Shown → Example
  spot_row p s given = record { worked = listed s.point (squared_distance f s.point p) (part_number s.part); given = given }

  abbrev pub five : ℤ → ℤ → ℤ → ℤ → ℕ → List Shown
  five x y z squared part = listed (point x y z) (of_int f squared) part

  -- (0,0,0) (4,0,0) (0,4,0), and the pinched (0,0,0) (0,0,0) (4,0,0)
  abbrev pub plain_triangle : Triangle
  plain_triangle = record { a = point (pos 0) (pos 0) (pos 0); b = point (pos 4) (pos 0) (pos 0); c = point (pos 0) (pos 4) (pos 0) }

  abbrev pub pinched_triangle : Triangle
  pinched_triangle = record { a = point (pos 0) (pos 0) (pos 0); b = point (pos 0) (pos 0) (pos 0); c = point (pos 4) (pos 0) (pos 0) }

  abbrev pub closest_row : Point → List Shown → Example
  closest_row p given = spot_row p (closest_spot f plain_triangle p) given

  abbrev pub e1 : Example
  e1 = row (box_squared f (box_to (point (pos 2) (pos 2) (pos 2))) (point (pos 3) (negsuc 0) (pos 1)) ∷ []) (of_int f (pos 2) ∷ [])

  abbrev pub e2 : Example
  e2 =
      let b = box_to (point (pos 1) (pos 2) (pos 3)) in
      row (area f b ∷ volume f b ∷ []) (of_int f (pos 22) ∷ of_int f (pos 6) ∷ [])

  abbrev pub e3 : Example
  e3 =
      let o = offset f (box_to (point (pos 4) (pos 4) (pos 0))) (point (pos 1) (pos 4) (pos 2)) in
      row (o.x ∷ o.y ∷ o.z ∷ []) (fin false 1 (negsuc 1) ∷ of_int f (pos 1) ∷ of_int f (pos 2) ∷ [])

  abbrev pub e4 : Example
  e4 = closest_row (point (pos 1) (pos 1) (pos 5)) (five (pos 1) (pos 1) (pos 0) (pos 25) 0)

  abbrev pub e5 : Example
  e5 = closest_row (point (negsuc 0) (negsuc 1) (pos 0)) (five (pos 0) (pos 0) (pos 0) (pos 5) 1)

  abbrev pub e6 : Example
  e6 = closest_row (point (pos 2) (negsuc 2) (pos 0)) (five (pos 2) (pos 0) (pos 0) (pos 9) 4)

  -- the source gives no number, by the test of ab; the sure query the foot on ac
  abbrev pub e7_source : Example
  e7_source =
      let p = point (pos 1) (pos 1) (pos 0) in
      spot_row p (closest_spot f pinched_triangle p) (listed (record { x = nan; y = nan; z = nan }) nan 4)

  abbrev pub e7_sure : Example
  e7_sure =
      let p = point (pos 1) (pos 1) (pos 0) in
      spot_row p (held_spot f pinched_triangle p) (five (pos 1) (pos 0) (pos 0) (pos 1) 5)

  abbrev pub shape_examples : List Example
  shape_examples = e1 ∷ e2 ∷ e3 ∷ e4 ∷ e5 ∷ e6 ∷ e7_source ∷ e7_sure ∷ []
