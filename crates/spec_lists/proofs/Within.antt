-- What is read of a list of coordinates is within 2 ^ 20: so what is worked out of it is bounded, and the feet on its triangles' edges are as told.
use mathlib.Core.Path.{◌≡◌}
use mathlib.Core.Bool.{true, false}
use mathlib.Core.List.{List}
use Prim.Native.Nat.{ℕ, ◌+◌, ◌*◌, ◌^◌, ◌≤◌}
use native.Mathlib.Omega.{arith}
use lib.Dec.{T}
use lib.ListN.{length}
use lib.Ieee.{Float, fin, Format, neg, le, inf, nan}
use lib.Ieee.Positive.{num, den}
use lib.Ieee.Scale.{finite}
use Rattle.spec_numbers.specs.Axes.{X, Y, Z}
use Rattle.spec_numbers.proofs.Fraction.{compared}
use Rattle.spec_numbers.proofs.Within.{Within}
use Rattle.spec_shapes.specs.Points.{Point}
use Rattle.spec_shapes.specs.Boxes.{held_in}
use Rattle.spec_shapes.specs.Triangles.{box_of, OnEdges, foot, held_foot}
use Rattle.spec_shapes.proofs.Within.{PointWithin}
use Rattle.spec_shapes.proofs.Feet.{feet_as_told}
use Rattle.spec_lists.specs.Limits.{furthest_coordinate}
use Rattle.spec_lists.specs.Reading.{point_at, triangle_at}
use Rattle.spec_lists.specs.Refusals.{is_coordinate}
use Rattle.spec_lists.specs.Passed.{AllCoordinates}
use Rattle.spec_lists.proofs.Coordinates.{coordinate_at_least, coordinate_at_most, coordinate_finite}
use Rattle.spec_lists.proofs.Reading.{number_in_range}

between_ends : (x : Float) → T (finite x) → T (le (neg furthest_coordinate) x) → T (le x furthest_coordinate) → num x ≤ 2 ^ 20 * den x
unfolding neg
between_ends (fin false m e) F l h = omega (arith, (compared (fin false m e) furthest_coordinate tt tt).le→at_most h)
between_ends (fin true m e) F l h = omega (arith, (compared (neg furthest_coordinate) (fin true m e) tt tt).le→at_most l)
between_ends nan F l h = elim F [ ]
between_ends (inf _) F l h = elim F [ ]

-- a coordinate is at most 2 ^ 20 in magnitude
pub coordinate_within : (x : Float) → T (is_coordinate x) → Within (2 ^ 20) x
coordinate_within x h =
    record { is_finite = coordinate_finite x h; most = between_ends x (coordinate_finite x h) (coordinate_at_least x h) (coordinate_at_most x h) }

-- so is each coordinate of a point that is read of a list of them
pub point_within : (xs : List Float) → AllCoordinates xs → (i : ℕ) → i + 3 ≤ length xs → PointWithin (2 ^ 20) (point_at xs i)
unfolding point_at
point_within xs h i l X = coordinate_within _ (number_in_range xs h i (omega arith))
point_within xs h i l Y = coordinate_within _ (number_in_range xs h (i + 1) (omega arith))
point_within xs h i l Z = coordinate_within _ (number_in_range xs h (i + 2) (omega arith))

-- the feet on the edges of a triangle that is read of such a list, to a point in range, are as they are told: the guard for what is not finite never acts
pub read_feet_as_told : (f : Format) (xs : List Float) → AllCoordinates xs → (t : ℕ) → 9 * t + 9 ≤ length xs → (p : Point) → PointWithin (2 ^ 20) p
    → OnEdges (λ start end. held_foot f (triangle_at xs t) start end p ≡ held_in (box_of (triangle_at xs t)) (foot f start end p)) (triangle_at xs t)
unfolding triangle_at
read_feet_as_told f xs h t l p P =
    feet_as_told f _ p (point_within xs h (9 * t) (omega arith)) (point_within xs h (9 * t + 3) (omega arith)) (point_within xs h (9 * t + 6) (omega arith)) P
