-- A triangle list, a point list, settings, room, a distance and a scale pass their tests exactly where they are good: nothing good is refused.
-- The test of coordinates reports the place of the first bad number.
use mathlib.Core.Path.{◌≡◌}
use mathlib.Core.Bool.{not, ◌&&◌}
use mathlib.Core.List.{List}
use Prim.Native.Nat.{ℕ, ◌/◌, ◌%◌, ◌≤◌}
use native.Mathlib.Omega.{arith}
use borrow.Author.Tests.{ltb-true, ltb-false, eqb-true, eqb-false, lt-ltb, le-ltb, le-leb, eq-eqb, ne_eqb}
use lib.Dec.{leb, ltb, eqb, leb→le}
use lib.ListN.{length}
use lib.Ieee.{Float, le}
use lib.Ieee.Bits.{is_true}
use lib.Ieee.Fits.{and_l, and_r}
use Rattle.spec_numbers.specs.Values.{zero}
use Rattle.spec_numbers.proofs.Tests.{passed}
use Rattle.spec_lists.specs.Limits.{max_triangles, longest_distance, largest_scale, deepest, max_leaf_minimum}
use Rattle.spec_lists.specs.Reading.{triangle_count, point_count}
use Rattle.spec_lists.specs.Refusals.{passes, refused, first_bad, ragged_refusal, none_refusal, too_many_refusal, coordinate_refusal, triangles_refusal, Settings, are_settings, settings_refusal, room_refusal, points_refusal, distance_refusal, scale_refusal, refused_if, within, is_distance, is_scale}
use Rattle.spec_lists.specs.Passed.{AllCoordinates, GoodTriangles, GoodPoints, GoodSettings, UpTo, GoodDistance, GoodScale, FirstBad}
use Rattle.spec_lists.proofs.Verdicts.{all_pass, then_passes, not_refused, so, refused_by}
use Rattle.spec_lists.proofs.Coordinates.{first_bad_lem, first_bad_unique, none_bad, all_good}

-- ---- coordinates
module _ (number : ℕ) (xs : List Float) where
  -- a list that passed the test has coordinates only
  pub coordinates_passed : coordinate_refusal number xs ≡ passes → AllCoordinates xs
  unfolding coordinate_refusal
  coordinates_passed e = none_bad xs (ltb-false _ _ (not_refused (ltb (first_bad xs) (length xs)) number (first_bad xs) e))

  -- a list that has coordinates only passes
  pub coordinates_pass : AllCoordinates xs → coordinate_refusal number xs ≡ passes
  unfolding coordinate_refusal
  coordinates_pass h = rw (le-ltb (first_bad xs) (length xs) (all_good xs h))

  -- a refusal carries the number of its test and the place of the first bad number
  pub coordinate_place : (n place : ℕ) → coordinate_refusal number xs ≡ refused n place → (n ≡ number) × FirstBad xs place
  unfolding coordinate_refusal
  coordinate_place n place e =
      let r = refused_by (ltb (first_bad xs) (length xs)) number (first_bad xs) n place e in
      (r.1.0, rw r.1.1 (first_bad_lem xs (ltb-true (first_bad xs) (length xs) r.0)))

  -- a list with a bad number is refused, at the first one
  pub coordinate_refused : (place : ℕ) → FirstBad xs place → coordinate_refusal number xs ≡ refused number place
  unfolding coordinate_refusal
  coordinate_refused place b = rw (first_bad_unique xs place b, lt-ltb place (length xs) b.inside)

-- ---- triangles
module _ (xs : List Float) where
  -- a triangle list that passed is whole, has 1 to 65,536 triangles, and coordinates only
  pub triangles_passed : triangles_refusal xs ≡ passes → GoodTriangles xs
  unfolding triangles_refusal ragged_refusal none_refusal too_many_refusal triangle_count
  triangles_passed e =
      let p = all_pass _ e in
      let ragged = eqb-true (length xs % 9) 0 (so (eqb (length xs % 9) 0) 1 0 p.0) in
      let none = eqb-false (length xs / 9) 0 (not_refused (eqb (length xs / 9) 0) 2 0 p.1.0) in
      record {
        whole = omega arith;
        some = omega arith;
        few = ltb-false max_triangles (length xs / 9) (not_refused (ltb max_triangles (length xs / 9)) 3 0 p.1.1.0);
        coordinates = coordinates_passed 4 xs p.1.1.1.0;
      }

  -- such a triangle list passes: refusals 1 to 4 come for no other reason
  pub triangles_pass : GoodTriangles xs → triangles_refusal xs ≡ passes
  unfolding triangles_refusal ragged_refusal none_refusal too_many_refusal triangle_count
  triangles_pass g =
      let w = g.whole in
      let h = g.some in
      then_passes _ (
        rw (eq-eqb (length xs % 9) 0 (omega arith)),
        (
          rw (ne_eqb (length xs / 9) 0 (λ (z : length xs / 9 ≡ 0). omega arith)),
          (rw (le-ltb max_triangles (length xs / 9) g.few), (coordinates_pass 4 xs g.coordinates, tt)),
        ),
      )

-- ---- points
module _ (xs : List Float) where
  -- a point list that passed is whole and has coordinates only
  pub points_passed : points_refusal xs ≡ passes → GoodPoints xs
  unfolding points_refusal point_count
  points_passed e =
      let p = all_pass _ e in
      let ragged = eqb-true (length xs % 3) 0 (so (eqb (length xs % 3) 0) 8 (length xs) p.0) in
      record { whole = omega arith; coordinates = coordinates_passed 8 xs p.1.0 }

  -- such a point list passes: refusal 8 comes for no other reason
  pub points_pass : GoodPoints xs → points_refusal xs ≡ passes
  unfolding points_refusal point_count
  points_pass g =
      let w = g.whole in
      then_passes _ (rw (eq-eqb (length xs % 3) 0 (omega arith)), (coordinates_pass 8 xs g.coordinates, tt))

-- ---- settings
module _ (s : Settings) where
  -- settings that passed are in range
  pub settings_passed : settings_refusal s ≡ passes → GoodSettings s
  unfolding settings_refusal are_settings
  settings_passed e =
      let a = leb 1 s.strategy in
      let b = leb s.strategy 2 in
      let c = leb 1 s.leaf_minimum in
      let d = leb s.leaf_minimum max_leaf_minimum in
      let f = leb s.maximum_depth deepest in
      let h = passed (so (a && b && c && d && f) 5 0 e) in
      let k = and_l (a && b && c && d) f h in
      let l = and_l (a && b && c) d k in
      let m = and_l (a && b) c l in
      record {
        first = leb→le 1 s.strategy (and_l a b m);
        last = leb→le s.strategy 2 (and_r a b m);
        leaf = leb→le 1 s.leaf_minimum (and_r (a && b) c l);
        leaf_most = leb→le s.leaf_minimum max_leaf_minimum (and_r (a && b && c) d k);
        depth = leb→le s.maximum_depth deepest (and_r (a && b && c && d) f h);
      }

  -- settings in range pass: refusal 5 comes for no other reason
  pub settings_pass : GoodSettings s → settings_refusal s ≡ passes
  unfolding settings_refusal are_settings
  settings_pass g =
      rw (
        le-leb 1 s.strategy g.first,
        le-leb s.strategy 2 g.last,
        le-leb 1 s.leaf_minimum g.leaf,
        le-leb s.leaf_minimum max_leaf_minimum g.leaf_most,
        le-leb s.maximum_depth deepest g.depth,
      )

-- ---- room, the distance and the scale
-- an output that passed has room for all that is written
pub room_passed : (given need : ℕ) → room_refusal given need ≡ passes → need ≤ given
unfolding room_refusal
room_passed given need e = ltb-false given need (not_refused (ltb given need) 6 0 e)

-- an output with that room passes: refusal 6 comes for no other reason
pub room_passes : (given need : ℕ) → need ≤ given → room_refusal given need ≡ passes
unfolding room_refusal
room_passes given need h = rw (le-ltb given need h)

module _ (most : Float) (number : ℕ) (x : Float) where
  range_passed : refused_if (not (within zero most x)) number 0 ≡ passes → UpTo most x
  range_passed e =
      let h = passed (so (within zero most x) number 0 e) in
      record { low = and_l (le zero x) (le x most) h; high = and_r (le zero x) (le x most) h }

  range_passes : UpTo most x → refused_if (not (within zero most x)) number 0 ≡ passes
  range_passes g = rw (is_true (le zero x) g.low, is_true (le x most) g.high)

-- a search distance that passed is in range
pub distance_passed : (d : Float) → distance_refusal d ≡ passes → GoodDistance d
unfolding distance_refusal is_distance
distance_passed d e = range_passed longest_distance 9 d e

-- a search distance in range passes: refusal 9 comes for no other reason
pub distance_passes : (d : Float) → GoodDistance d → distance_refusal d ≡ passes
unfolding distance_refusal is_distance
distance_passes d g = range_passes longest_distance 9 d g

-- an accuracy scale that passed is in range
pub scale_passed : (s : Float) → scale_refusal s ≡ passes → GoodScale s
unfolding scale_refusal is_scale
scale_passed s e = range_passed largest_scale 14 s e

-- an accuracy scale in range passes, minus zero too: refusal 14 comes for no other reason
pub scale_passes : (s : Float) → GoodScale s → scale_refusal s ≡ passes
unfolding scale_refusal is_scale
scale_passes s g = range_passes largest_scale 14 s g
