-- What is refused: the tests by their numbers, with the place that each reports, and the first of several that refuses.
use Rattle.std.specs.Prelude.{Bool, true, false, not, cond, ◌&&◌, List, [], ◌∷◌, ℕ, suc, ◌%◌, leb, ltb, eqb, length, Float}
use Rattle.std.specs.Float.Ieee.{le, neg}
use Rattle.spec_numbers.specs.Values.{zero}
use Rattle.spec_lists.specs.Limits.{max_triangles, furthest_coordinate, longest_distance, largest_scale, deepest, max_leaf_minimum}
use Rattle.spec_lists.specs.Reading.{triangle_count}

-- what a test answers: it passes, or refuses with its number and a place
pub data Verdict : Type 0 where
  passes : Verdict
  refused : (number place : ℕ) → Verdict

abbrev pub refuses : Verdict → Bool
refuses passes = false
refuses (refused number place) = true

-- the first of these tests that refuses
unfoldable pub first_refusal : List Verdict → Verdict
first_refusal [] = passes
first_refusal (passes ∷ tests) = first_refusal tests
first_refusal (refused number place ∷ tests) = refused number place

abbrev pub refused_if : Bool → ℕ → ℕ → Verdict
refused_if b number place = cond b (refused number place) passes

-- ---- numbers in range: a NaN is in none
abbrev pub within : Float → Float → Float → Bool
within low high x = le low x && le x high

unfoldable pub is_coordinate : Float → Bool
unfolding neg
is_coordinate x = within (neg furthest_coordinate) furthest_coordinate x

-- minus zero is a distance too
unfoldable pub is_distance : Float → Bool
is_distance x = within zero longest_distance x

-- minus zero is a scale too
unfoldable pub is_scale : Float → Bool
is_scale x = within zero largest_scale x

-- the index of the first number that is no coordinate, the length where there is none
unfoldable pub first_bad : List Float → ℕ
first_bad [] = 0
first_bad (x ∷ xs) = cond (is_coordinate x) (suc (first_bad xs)) 0

-- ---- the tests of a triangle list
-- 1: its length is no multiple of nine
unfoldable pub ragged_refusal : List Float → Verdict
ragged_refusal xs = refused_if (not (eqb (length xs % 9) 0)) 1 0

-- 2: no triangles
unfoldable pub none_refusal : List Float → Verdict
none_refusal xs = refused_if (eqb (triangle_count xs) 0) 2 0

-- 3: more triangles than the limit
unfoldable pub too_many_refusal : List Float → Verdict
too_many_refusal xs = refused_if (ltb max_triangles (triangle_count xs)) 3 0

-- 4 or 8: a coordinate is out of range or no number; the place is the index of the first
unfoldable pub coordinate_refusal : ℕ → List Float → Verdict
coordinate_refusal number xs = refused_if (ltb (first_bad xs) (length xs)) number (first_bad xs)

-- 1 to 4, in this order
unfoldable pub triangles_refusal : List Float → Verdict
triangles_refusal xs = first_refusal (ragged_refusal xs ∷ none_refusal xs ∷ too_many_refusal xs ∷ coordinate_refusal 4 xs ∷ [])

-- ---- the other tests
pub record Settings : Type 0 where
  pub strategy : ℕ
  pub leaf_minimum : ℕ
  pub maximum_depth : ℕ

-- strategy 1 is median, 2 is area
unfoldable pub are_settings : Settings → Bool
are_settings s =
    leb 1 s.strategy && leb s.strategy 2 && leb 1 s.leaf_minimum && leb s.leaf_minimum max_leaf_minimum && leb s.maximum_depth deepest

-- 5: a setting is out of range
unfoldable pub settings_refusal : Settings → Verdict
settings_refusal s = refused_if (not (are_settings s)) 5 0

-- 6: an output of this length is shorter than its need
unfoldable pub room_refusal : (given need : ℕ) → Verdict
room_refusal given need = refused_if (ltb given need) 6 0

-- 8: the point list is ragged, and the place its length; else a coordinate is bad
unfoldable pub points_refusal : List Float → Verdict
points_refusal xs = first_refusal (refused_if (not (eqb (length xs % 3) 0)) 8 (length xs) ∷ coordinate_refusal 8 xs ∷ [])

-- 9: the search distance is out of range or no number
unfoldable pub distance_refusal : Float → Verdict
distance_refusal d = refused_if (not (is_distance d)) 9 0

-- 14: the accuracy scale is out of range or no number
unfoldable pub scale_refusal : Float → Verdict
scale_refusal s = refused_if (not (is_scale s)) 14 0

-- a lent list after a call: as written where the tests passed, and on a refusal as it was
abbrev pub after_verdict {ℓ} : {A : Type ℓ} → Verdict → (new old : List A) → List A
after_verdict passes new old = new
after_verdict (refused number place) new old = old
