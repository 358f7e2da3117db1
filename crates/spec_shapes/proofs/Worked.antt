-- Shapes worked out: a point of the triangle (0,0,0) (4,0,0) (0,4,0) for each of the seven tests of the closest point, triangles that have no closest
-- point, each with the number of the part that is told, and what no law says of boxes and planes.
use mathlib.Core.Path.{◌≡◌, refl}
use mathlib.Core.Bool.{Bool, true, false}
use mathlib.Core.List.{[], ◌∷◌}
use Prim.Native.Nat.{ℕ, ◌+◌, ◌-◌, ◌^◌}
use lib.IntN.{ℤ, pos, negsuc}
use lib.Ieee.{Float, Format, binary32, binary64, fin, add, sub, mul, div, lt, le, eq, round, of_int}
use Rattle.spec_numbers.specs.Axes.{X}
use Rattle.spec_shapes.specs.Points.{Point, minus, plus, scale, divided_by, dot, smallest, largest, is_under, is_finite, plus_zero, squared_distance}
use Rattle.spec_shapes.specs.Boxes.{Box, centre, sizes, area, offset_on, offset, with_excess, with_outside, box_squared, contains_point, closest_in_box, held_in}
use Rattle.spec_shapes.specs.Planes.{Plane, unit, reach, meets_box}
use Rattle.spec_shapes.specs.Triangles.{Triangle, box_of, dots, crossed, part, part_number, along, face_point, point_on, Spot, closest_spot, closest_point, foot, finite_or, held_foot, foot_part, foot_spot, nearer_foot, nearest_foot, held_spot}

-- a spot as it is told: the number of its part, and its point
abbrev told : Spot → ℕ × Point
told s = (part_number s.part, s.point)

module _ (f : Format) where
  abbrev point : ℤ → ℤ → ℤ → Point
  point x y z = record { x = of_int f x; y = of_int f y; z = of_int f z }

  abbrev closest_to : ℤ → ℤ → ℤ → ℕ × Point
  closest_to x y z =
      told (closest_spot f (record { a = point (pos 0) (pos 0) (pos 0); b = point (pos 4) (pos 0) (pos 0); c = point (pos 0) (pos 4) (pos 0) }) (point x y z))

  -- (0,0,0) to (4,2,0)
  abbrev flat : Box
  flat = record { min = point (pos 0) (pos 0) (pos 0); max = point (pos 4) (pos 2) (pos 0) }

  abbrev plane_at : ℤ → Plane
  plane_at x = record { normal = unit X; distance = of_int f x }

-- above the face, past the corners a, b and c, beside the edges ab, ac and bc
pub closest_worked : (f : Format)
    → (closest_to f (pos 1) (pos 2) (pos 5)
    ∷ closest_to f (negsuc 0) (negsuc 1) (pos 0) ∷ closest_to f (pos 6) (negsuc 0) (pos 0) ∷ closest_to f (negsuc 0) (pos 6) (pos 0)
    ∷ closest_to f (pos 1) (negsuc 2) (pos 0) ∷ closest_to f (negsuc 2) (pos 1) (pos 0) ∷ closest_to f (pos 3) (pos 5) (pos 0) ∷ [])
    ≡ ((0, point f (pos 1) (pos 2) (pos 0))
    ∷ (1, point f (pos 0) (pos 0) (pos 0)) ∷ (2, point f (pos 4) (pos 0) (pos 0)) ∷ (3, point f (pos 0) (pos 4) (pos 0))
    ∷ (4, point f (pos 1) (pos 0) (pos 0)) ∷ (5, point f (pos 0) (pos 1) (pos 0)) ∷ (6, point f (pos 1) (pos 3) (pos 0)) ∷ [])
unfolding add sub mul div lt le eq round of_int minus plus scale dot dots crossed part part_number along face_point point_on closest_spot
closest_worked binary32 = refl
closest_worked binary64 = refl

-- ---- triangles that have no closest point
-- n / 2^k of a side that is so short that one over its fourth power overflows
abbrev share : Format → Bool → ℕ → ℕ → Float
share binary32 sign n k = fin sign n (negsuc (32 + k))
share binary64 sign n k = fin sign n (negsuc (257 + k))

-- a coordinate so small that 1 less it is 1
abbrev unseen : Format → Float
unseen binary32 = fin false 1 (negsuc 29)
unseen binary64 = fin false 1 (negsuc 59)

-- three quarters of the spacing below 1, under zero: 1 less it is 1, and 1 and it are the number before 1
abbrev slightly : Format → Float
slightly binary32 = fin true 3 (negsuc 25)
slightly binary64 = fin true 3 (negsuc 54)

abbrev before_one_lem : Format → Float
before_one_lem binary32 = fin false (2 ^ 24 - 1) (negsuc 23)
before_one_lem binary64 = fin false (2 ^ 53 - 1) (negsuc 52)

-- a side whose square runs under to zero, and a place from which its two ends are not equally far
abbrev runs_under : Format → Float
runs_under binary32 = fin false 1 (negsuc 79)
runs_under binary64 = fin false 1 (negsuc 539)

abbrev past_it : Format → Float
past_it binary32 = fin false 1 (negsuc 59)
past_it binary64 = fin false 1 (negsuc 519)

-- twice that side, and a place from which the side's ends are still not equally far though its product with the side runs under too
abbrev twice_it : Format → Float
twice_it binary32 = fin false 1 (negsuc 78)
twice_it binary64 = fin false 1 (negsuc 538)

abbrev just_past_it : Format → Float
just_past_it binary32 = fin false 1 (negsuc 69)
just_past_it binary64 = fin false 1 (negsuc 534)

module _ (f : Format) where
  abbrev flat_point : Float → Float → Point
  flat_point x y = record { x = x; y = y; z = of_int f (pos 0) }

  -- (a,0,0) (a,0,0) (c,0,0)
  abbrev pinched : Float → Float → Triangle
  pinched a c = record { a = flat_point a (of_int f (pos 0)); b = flat_point a (of_int f (pos 0)); c = flat_point c (of_int f (pos 0)) }

  -- with the right angle at a, and with the tip at c over the middle of ab
  abbrev tiny_right : Triangle
  tiny_right = record {
    a = flat_point (of_int f (pos 0)) (of_int f (pos 0));
    b = flat_point (share f false 1 0) (of_int f (pos 0));
    c = flat_point (of_int f (pos 0)) (share f false 1 0);
  }

  abbrev tiny_tip : Triangle
  tiny_tip = record {
    a = flat_point (share f true 1 0) (of_int f (pos 0));
    b = flat_point (share f false 1 0) (of_int f (pos 0));
    c = flat_point (of_int f (pos 0)) (share f false 1 0);
  }

  -- (0,0,0) and two more on a line, no edge of which has a square
  abbrev tiny_line : Triangle
  tiny_line = record {
    a = flat_point (of_int f (pos 0)) (of_int f (pos 0));
    b = flat_point (runs_under f) (of_int f (pos 0));
    c = flat_point (twice_it f) (of_int f (pos 0));
  }

  -- the held point, where the computed one is not finite
  abbrev by_feet : Triangle → Point → Bool × ℕ × Point
  by_feet t p = (is_finite (closest_point f t p), part_number (held_spot f t p).part, (held_spot f t p).point)

-- Pinched: over the side, past its end and at corner c, all on the edge; with an end that start + edge misses: it goes past, and the foot is held into the
-- box, or it falls short, and the foot stays there; and with a side whose square is zero, which is its start, a corner.
pub pinched_worked : (f : Format)
    → (by_feet f (pinched f (of_int f (pos 0)) (of_int f (pos 4))) (point f (pos 1) (pos 1) (pos 0)) ≡ (false, 5, point f (pos 1) (pos 0) (pos 0)))
    × (by_feet f (pinched f (of_int f (pos 0)) (of_int f (pos 4))) (point f (pos 9) (pos 1) (pos 0)) ≡ (false, 5, point f (pos 4) (pos 0) (pos 0)))
    × (by_feet f (pinched f (of_int f (pos 4)) (of_int f (pos 0))) (point f (pos 0) (pos 0) (pos 0)) ≡ (false, 5, point f (pos 0) (pos 0) (pos 0)))
    × (by_feet f (pinched f (of_int f (pos 1)) (unseen f)) (point f (negsuc 0) (pos 0) (pos 0)) ≡ (false, 5, flat_point f (unseen f) (of_int f (pos 0))))
    × (by_feet f (pinched f (slightly f) (of_int f (pos 1))) (point f (pos 2) (pos 0) (pos 0)) ≡ (false, 5, flat_point f (before_one_lem f) (of_int f (pos 0))))
    × (by_feet f (pinched f (of_int f (pos 0)) (runs_under f)) (flat_point f (past_it f) (of_int f (pos 0))) ≡ (false, 1, point f (pos 0) (pos 0) (pos 0)))
unfolding add sub mul div lt le eq round of_int minus plus scale dot smallest largest is_finite plus_zero squared_distance held_in box_of dots crossed part
    part_number along face_point point_on closest_spot foot finite_or held_foot foot_part foot_spot nearer_foot nearest_foot held_spot
pinched_worked binary32 = (refl, refl, refl, refl, refl, refl)
pinched_worked binary64 = (refl, refl, refl, refl, refl, refl)

-- Tiny: level on ab and ac, nearest on ac, nearest on bc; level on ac and bc; and three edges without a square, of which bc starts nearest.
pub tiny_worked : (f : Format)
    → (by_feet f (tiny_right f) (flat_point f (share f false 1 2) (share f false 1 2)) ≡ (false, 4, flat_point f (share f false 1 2) (of_int f (pos 0))))
    × (by_feet f (tiny_right f) (flat_point f (share f false 1 3) (share f false 1 1)) ≡ (false, 5, flat_point f (of_int f (pos 0)) (share f false 1 1)))
    × (by_feet f (tiny_right f) (flat_point f (share f false 1 1) (share f false 1 2)) ≡ (false, 6, flat_point f (share f false 5 3) (share f false 3 3)))
    × (by_feet f (tiny_tip f) (flat_point f (of_int f (pos 0)) (share f false 3 2)) ≡ (false, 5, flat_point f (share f true 1 3) (share f false 7 3)))
    × (by_feet f (tiny_line f) (flat_point f (just_past_it f) (of_int f (pos 0))) ≡ (false, 2, flat_point f (runs_under f) (of_int f (pos 0))))
unfolding add sub mul div lt le eq round of_int minus plus scale dot smallest largest is_finite plus_zero squared_distance held_in box_of dots crossed part
    part_number along face_point point_on closest_spot foot finite_or held_foot foot_part foot_spot nearer_foot nearest_foot held_spot
tiny_worked binary32 = (refl, refl, refl, refl, refl)
tiny_worked binary64 = (refl, refl, refl, refl, refl)

-- a needle (0,-2,0) (d,-2+d,0) (-2,4d,0), d being the spacing below 2
abbrev needle : Format → Triangle
needle f = record {
  a = flat_point f (of_int f (pos 0)) (of_int f (negsuc 1));
  b = flat_point f (spacing f) (below f);
  c = flat_point f (of_int f (negsuc 1)) (four f);
}
  where
    spacing : Format → Float
    spacing binary32 = fin false 1 (negsuc 22)
    spacing binary64 = fin false 1 (negsuc 51)

    below : Format → Float
    below binary32 = fin true (2 ^ 24 - 1) (negsuc 22)
    below binary64 = fin true (2 ^ 53 - 1) (negsuc 51)

    four : Format → Float
    four binary32 = fin false 1 (negsuc 20)
    four binary64 = fin false 1 (negsuc 49)

-- Seen square to ab the needle has no closest point. The foot on bc is past the end of the box, and nearer than that on ac until it is held; then the two
-- are level, and that on ac, which is c, is kept.
pub needle_worked : (f : Format) → by_feet f (needle f) (point f (negsuc 10) (pos 9) (pos 0)) ≡ (false, 5, (needle f).c)
unfolding add sub mul div lt le eq round of_int minus plus scale dot smallest largest is_finite plus_zero squared_distance held_in box_of dots crossed part
    part_number along face_point point_on closest_spot foot finite_or held_foot foot_part foot_spot nearer_foot nearest_foot held_spot
needle_worked binary32 = refl
needle_worked binary64 = refl

-- ---- boxes and planes
-- the squared distance to (7,-4,0), whether (4,2,0) and (4,3,0) are inside, the point of the box closest to (7,1,1), the centre, the area, and where
-- (1,2,2) lies
pub box_worked : (f : Format)
    → (box_squared f (flat f) (point f (pos 7) (negsuc 3) (pos 0)) ≡ of_int f (pos 25))
    × (contains_point (flat f) (point f (pos 4) (pos 2) (pos 0)) ≡ true)
    × (contains_point (flat f) (point f (pos 4) (pos 3) (pos 0)) ≡ false)
    × (closest_in_box (flat f) (point f (pos 7) (pos 1) (pos 1)) ≡ point f (pos 4) (pos 1) (pos 0))
    × (centre f (flat f) ≡ point f (pos 2) (pos 1) (pos 0))
    × (area f (flat f) ≡ of_int f (pos 16))
    × (offset f (flat f) (point f (pos 1) (pos 2) (pos 2)) ≡ record { x = fin false 1 (negsuc 1); y = of_int f (pos 1); z = of_int f (pos 2) })
unfolding add sub mul div lt le eq round of_int minus plus divided_by smallest largest is_under centre sizes area offset_on offset with_excess with_outside
    box_squared contains_point closest_in_box
box_worked binary32 = (refl, refl, refl, refl, refl, refl, refl)
box_worked binary64 = (refl, refl, refl, refl, refl, refl, refl)

-- a plane through the end of the box meets it, and one beyond does not
pub plane_worked : (f : Format) → (meets_box f (plane_at f (pos 4)) (flat f) ≡ true) × (meets_box f (plane_at f (pos 5)) (flat f) ≡ false)
unfolding add sub mul div lt le eq round of_int minus plus divided_by dot centre unit reach meets_box
plane_worked binary32 = (refl, refl)
plane_worked binary64 = (refl, refl)
