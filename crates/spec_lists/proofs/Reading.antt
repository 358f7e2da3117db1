-- What is read of a list of coordinates: numbers in range, points and corners that are finite, boxes that are proper;
-- and, of numbers that the format holds, no minus zero. Builds and queries start from these facts.
use mathlib.Core.Path.{◌≡◌, ap}
use mathlib.Core.List.{List, ◌++◌}
use Prim.Native.Nat.{ℕ, ◌+◌, ◌*◌, ◌≤◌, ◌<◌}
use native.Mathlib.Omega.{arith}
use lib.Dec.{T}
use lib.ListN.{length, get_or, length-append, get_or-append}
use lib.Seq.{get_or-append-add}
use lib.Ieee.{Float, nan, Format}
use lib.Ieee.Scale.{finite}
use Rattle.spec_numbers.specs.Values.{plus_zero}
use Rattle.spec_numbers.specs.Axes.{Finite, X, Y, Z}
use Rattle.spec_numbers.specs.Plain.{Plain}
use Rattle.spec_numbers.proofs.Order.{finite_number}
use Rattle.spec_numbers.proofs.Plain.{plus_zero_plain}
use Rattle.spec_shapes.specs.Points.{at}
use Rattle.spec_shapes.specs.Boxes.{Proper}
use Rattle.spec_shapes.specs.Triangles.{FiniteCorners}
use Rattle.spec_shapes.specs.Plain.{PlainPoint, PlainBox}
use Rattle.spec_shapes.proofs.Bounds.{box_proper}
use Rattle.spec_shapes.proofs.Plain.{box_plain}
use Rattle.spec_lists.specs.Reading.{number_at, point_at, triangle_at, box_at, triangle_count, point_count}
use Rattle.spec_lists.specs.Refusals.{is_coordinate}
use Rattle.spec_lists.specs.Passed.{AllCoordinates, AllFit}
use Rattle.spec_lists.proofs.Coordinates.{coordinate_finite, coordinate_plus_zero}

-- ---- reads are in bounds
-- the nine numbers of a triangle below the count lie in the list
pub triangle_inside : (xs : List Float) (t : ℕ) → t < triangle_count xs → 9 * t + 9 ≤ length xs
unfolding triangle_count
triangle_inside xs t h = omega arith

-- the three numbers of a point below the count lie in the list
pub point_inside : (xs : List Float) (k : ℕ) → k < point_count xs → 3 * k + 3 ≤ length xs
unfolding point_count
point_inside xs k h = omega arith

-- ---- a list with another behind it
module _ (xs ys : List Float) where
  number_in_front : (i : ℕ) → i < length xs → number_at (xs ++ ys) i ≡ number_at xs i
  unfolding number_at
  number_in_front i l = ap plus_zero (get_or-append xs ys nan i l)

  point_in_front : (i : ℕ) → i + 3 ≤ length xs → point_at (xs ++ ys) i ≡ point_at xs i
  unfolding point_at
  point_in_front i l = rw (number_in_front i (omega arith), number_in_front (i + 1) (omega arith), number_in_front (i + 2) (omega arith))

  -- its first triangles are read as they were
  pub triangle_in_front : (t : ℕ) → t < triangle_count xs → triangle_at (xs ++ ys) t ≡ triangle_at xs t
  unfolding triangle_at
  triangle_in_front t l =
      let inside : 9 * t + 9 ≤ length xs = triangle_inside xs t l in
      rw (point_in_front (9 * t) (omega arith), point_in_front (9 * t + 3) (omega arith), point_in_front (9 * t + 6) (omega arith))

  number_behind : (i j : ℕ) → j ≡ length xs + i → number_at (xs ++ ys) j ≡ number_at ys i
  unfolding number_at
  number_behind i j e = rw (e, get_or-append-add xs ys i nan)

  point_behind : (i j : ℕ) → j ≡ length xs + i → point_at (xs ++ ys) j ≡ point_at ys i
  unfolding point_at
  point_behind i j e = rw (number_behind i j e, number_behind (i + 1) (j + 1) (omega arith), number_behind (i + 2) (j + 2) (omega arith))

  module _ (whole : length xs ≡ 9 * triangle_count xs) where
    -- the others follow
    pub triangle_behind : (t : ℕ) → triangle_at (xs ++ ys) (triangle_count xs + t) ≡ triangle_at ys t
    unfolding triangle_at
    triangle_behind t =
        let at = 9 * (triangle_count xs + t) in
        rw (point_behind (9 * t) at (omega arith), point_behind (9 * t + 3) (at + 3) (omega arith), point_behind (9 * t + 6) (at + 6) (omega arith))

    -- and the counts add up
    pub count_appended : triangle_count (xs ++ ys) ≡ triangle_count xs + triangle_count ys
    unfolding triangle_count
    count_appended = omega (arith, whole, length-append xs ys)

-- ---- what is read of a list of coordinates
module _ (xs : List Float) (h : AllCoordinates xs) where
  -- every number that is read is a coordinate
  pub number_in_range : (i : ℕ) → i < length xs → T (is_coordinate (number_at xs i))
  unfolding number_at
  number_in_range i k = coordinate_plus_zero (get_or xs i nan) (h i k)

  number_finite : (i : ℕ) → i < length xs → T (finite (number_at xs i))
  number_finite i k = coordinate_finite (number_at xs i) (number_in_range i k)

  -- every point that is read is finite
  pub point_finite : (i : ℕ) → i + 3 ≤ length xs → Finite (at (point_at xs i))
  unfolding point_at
  point_finite i k X = number_finite i (omega arith)
  point_finite i k Y = number_finite (i + 1) (omega arith)
  point_finite i k Z = number_finite (i + 2) (omega arith)

  -- every triangle that is read has finite corners
  pub corners_finite : (t : ℕ) → 9 * t + 9 ≤ length xs → FiniteCorners (triangle_at xs t)
  unfolding triangle_at
  corners_finite t k = record { a = point_finite (9 * t) (omega arith); b = point_finite (9 * t + 3) (omega arith); c = point_finite (9 * t + 6) (omega arith) }

  -- every triangle that is read has a proper box
  pub box_at_proper : (t : ℕ) → 9 * t + 9 ≤ length xs → Proper (box_at xs t)
  unfolding box_at
  box_at_proper t k = box_proper (triangle_at xs t) (corners_finite t k)

  -- ---- with no minus zero
  module _ (f : Format) (fit : AllFit f xs) where
    number_plain : (i : ℕ) → i < length xs → Plain f (number_at xs i)
    unfolding number_at
    number_plain i k = plus_zero_plain f (get_or xs i nan) (fit i k) (finite_number (get_or xs i nan) (coordinate_finite (get_or xs i nan) (h i k)))

    point_plain : (i : ℕ) → i + 3 ≤ length xs → PlainPoint f (point_at xs i)
    unfolding point_at
    point_plain i k X = number_plain i (omega arith)
    point_plain i k Y = number_plain (i + 1) (omega arith)
    point_plain i k Z = number_plain (i + 2) (omega arith)

    -- every triangle that is read has a plain box, so that boxes may be joined in any order
    pub box_at_plain : (t : ℕ) → 9 * t + 9 ≤ length xs → PlainBox f (box_at xs t)
    unfolding box_at triangle_at
    box_at_plain t k =
        box_plain f (triangle_at xs t) (point_plain (9 * t) (omega arith)) (point_plain (9 * t + 3) (omega arith)) (point_plain (9 * t + 6) (omega arith))
