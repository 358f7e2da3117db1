-- What is known of lists, settings and distances that passed the tests: the rest of the engine relies on these records.
use Rattle.std.specs.Prelude.{not, ◌≡◌, List, ℕ, ◌*◌, ◌≤◌, ◌<◌, T, length, get_or, Float}
use Rattle.std.specs.Float.{nan, Format}
use Rattle.std.specs.Float.Ieee.{fits, le}
use Rattle.spec_numbers.specs.Values.{zero}
use Rattle.spec_lists.specs.Limits.{max_triangles, longest_distance, largest_scale, deepest, max_leaf_minimum}
use Rattle.spec_lists.specs.Reading.{triangle_count, point_count}
use Rattle.spec_lists.specs.Refusals.{is_coordinate, Settings}

-- every number of the list is a coordinate
abbrev pub AllCoordinates : List Float → Type 0
AllCoordinates xs = (i : ℕ) → i < length xs → T (is_coordinate (get_or xs i nan))

-- every number of the list is one of the format
abbrev pub AllFit : Format → List Float → Type 0
AllFit f xs = (i : ℕ) → i < length xs → T (fits f (get_or xs i nan))

-- a list of 1 to 65,536 whole triangles in range
pub record GoodTriangles (xs : List Float) : Type 0 where
  pub whole : length xs ≡ 9 * triangle_count xs
  pub some : 1 ≤ triangle_count xs
  pub few : triangle_count xs ≤ max_triangles
  pub coordinates : AllCoordinates xs

-- a list of whole points in range; there may be none
pub record GoodPoints (xs : List Float) : Type 0 where
  pub whole : length xs ≡ 3 * point_count xs
  pub coordinates : AllCoordinates xs

-- settings in range
pub record GoodSettings (s : Settings) : Type 0 where
  pub first : 1 ≤ s.strategy
  pub last : s.strategy ≤ 2
  pub leaf : 1 ≤ s.leaf_minimum
  pub leaf_most : s.leaf_minimum ≤ max_leaf_minimum
  pub depth : s.maximum_depth ≤ deepest

-- a number from zero to this one
pub record UpTo (most x : Float) : Type 0 where
  pub low : T (le zero x)
  pub high : T (le x most)

-- a search distance in range
abbrev pub GoodDistance : Float → Type 0
GoodDistance d = UpTo longest_distance d

-- an accuracy scale in range
abbrev pub GoodScale : Float → Type 0
GoodScale s = UpTo largest_scale s

-- the number at i is the first that is no coordinate: the place that a refusal reports
pub record FirstBad (xs : List Float) (i : ℕ) : Type 0 where
  pub inside : i < length xs
  pub bad : T (not (is_coordinate (get_or xs i nan)))
  pub before : (j : ℕ) → j < i → T (is_coordinate (get_or xs j nan))
