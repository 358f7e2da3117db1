-- A cut leaves objects on both sides: the median rule's of two boxes or more, and the area rule's where no centre is below the first,
-- as where the boxes are sorted. The first box then lies at the lower end of the centres' bounds, so in bucket 0, and no bucket is earlier.
use mathlib.Core.Path.{◌≡◌, refl, sym, ap, ◌∙◌}
use mathlib.Core.Bool.{Bool, true, false, cond, ◌&&◌}
use mathlib.Core.List.{List, [], ◌∷◌, foldl}
use Prim.Native.Nat.{ℕ, suc, min, ◌+◌, ◌/◌, ◌<◌, ◌≤◌}
use native.Mathlib.Omega.{arith}
use borrow.Author.Tests.{le-ltb}
use lib.Dec.{T, T_not, not_T, ltb}
use lib.Ieee.Bits.{is_false}
use lib.IntN.{pos}
use lib.ListN.{length}
use lib.Ieee.{Float, Format, nan, inf, fin, lt, le, fits, add, sub, div, neg, of_int}
use lib.Ieee.Fits.{div-fits}
use lib.Ieee.Scale.{finite}
use Rattle.spec_numbers.specs.Values as Values
use Rattle.spec_numbers.specs.Hold.{smaller, larger}
use Rattle.spec_numbers.specs.Axes.{Axis, X, Y, Z}
use Rattle.spec_numbers.proofs.Tests.{failed}
use Rattle.spec_numbers.proofs.Order.{not_lt→le, lt_le_transitive, finite_number}
use Rattle.spec_numbers.proofs.Difference.{sub_not_below, sub_not_above}
use Rattle.spec_numbers.proofs.Largest.{at_most_largest}
use Rattle.spec_numbers.proofs.Nought.{Nought, either, nought_by_order, difference_nought, over_nought, times_nought, cut_nought}
use Rattle.spec_shapes.specs.Points.{on, divided_by}
use Rattle.spec_shapes.specs.Boxes.{Box, centre, offset_on}
use Rattle.spec_splits.specs.Splits.{Split, cut_at, nowhere, CutsInside, NoneBelow, FirstIsLeast}
use Rattle.spec_splits.specs.Median.{median_split, all_meet_at, are_both_large}
use Rattle.spec_splits.specs.Area.{centre_bounds, bucket_for, bucket_of, EndsOf, bucket_between, Cheapest, first_later, cut_by, area_split}
use Rattle.spec_splits.proofs.Area.{lower_end_lem, upper_end_lem, lower_end, upper_end, bucket_on_axis}

-- ---- what is picked
picked_last : (a b : Bool) (n k : ℕ) → cond a nowhere (cond b nowhere (cut_at n)) ≡ cut_at k → n ≡ k
picked_last true b n k e = cc
picked_last false true n k e = cc
picked_last false false n k e = cc

picked_first : (a : Bool) (s : Split) (k : ℕ) → cond a s nowhere ≡ cut_at k → s ≡ cut_at k
picked_first true s k e = e
picked_first false s k e = cc

-- ---- the median rule
-- a median cut of two boxes or more leaves boxes on both sides: no child of a node is empty
pub median_inside : (f : Format) (axis : Axis) (parent : Box) (bs : List Box) (k : ℕ) → 2 ≤ length bs → median_split f axis parent bs ≡ cut_at k
    → CutsInside k (length bs)
unfolding median_split
median_inside f axis parent bs k h e =
    let half = picked_last (all_meet_at f axis bs (length bs / 2)) (are_both_large f parent bs (length bs / 2)) (length bs / 2) k e in
    record { after_first = omega (arith, half); before_end = omega (arith, half) }

-- ---- the first object in a later bucket
module _ (bucket : Box → ℕ) (last : ℕ) where
  later_within : (bs : List Box) (n k : ℕ) → first_later bucket last bs n ≡ cut_at k → (n ≤ k) × (k < n + length bs)
  unfolding first_later
  later_within [] n k e = absurd (let no : ◌≡◌ {A = ℕ} 0 1 = cc in omega arith)
  later_within (b ∷ bs) n k e = by_test (ltb last (bucket b)) (later_within bs (suc n) k) e
    where
      by_test : (t : Bool) → (first_later bucket last bs (suc n) ≡ cut_at k → (suc n ≤ k) × (k < suc n + length bs))
          → cond t (cut_at n) (first_later bucket last bs (suc n)) ≡ cut_at k
          → (n ≤ k) × (k < n + length (b ∷ bs))
      by_test true on q = let same : n ≡ k = cc in (omega arith, omega arith)
      by_test false on q = let r = on q in (omega (arith, r.0), omega (arith, r.1))

  -- the first box is in no later bucket
  later_inside : (b : Box) (bs : List Box) (k : ℕ) → bucket b ≡ 0 → first_later bucket last (b ∷ bs) 0 ≡ cut_at k → CutsInside k (length (b ∷ bs))
  unfolding first_later
  later_inside b bs k first e =
      let not_later : ltb last (bucket b) ≡ false = rw first (le-ltb last 0 (omega arith)) in
      let r = later_within bs 1 k (rw not_later at e) in
      record { after_first = omega (arith, r.0); before_end = omega (arith, r.1) }

-- ---- the lower end of the centres, where none is below the first
module _ (f : Format) (axis : Axis) where
  abbrev centre_of : Box → Float
  centre_of b = on axis (centre f b)

  centre_fits : (b : Box) → T (fits f (centre_of b))
  unfolding centre divided_by
  centre_fits b = by_axis_lem axis
    where
      by_axis_lem : (i : Axis) → T (fits f (on i (centre f b)))
      by_axis_lem X = div-fits f _ _
      by_axis_lem Y = div-fits f _ _
      by_axis_lem Z = div-fits f _ _

  lower_stays : (x : Float) (bs : List Box) → NoneBelow f axis x bs → foldl (lower_end_lem f axis) x bs ≡ x
  unfolding lower_end_lem
  lower_stays x [] h = refl
  lower_stays x (b ∷ bs) h = rw h.0 (lower_stays x bs h.1)

  -- nothing is above infinity
  none_above : (x : Float) → lt (inf false) x ≡ false
  unfolding lt
  none_above nan = refl
  none_above (inf s) = refl
  none_above (fin s m e) = refl

  upper_stays : (bs : List Box) → foldl (upper_end_lem f axis) (inf false) bs ≡ inf false
  unfolding upper_end_lem
  upper_stays [] = refl
  upper_stays (b ∷ bs) = rw (none_above (centre_of b)) (upper_stays bs)

  -- what is not below x is not below what is at most x
  none_below_less : (x y : Float) (bs : List Box) → T (le y x) → NoneBelow f axis x bs → NoneBelow f axis y bs
  none_below_less x y [] h n = tt
  none_below_less x y (b ∷ bs) h n = (
    is_false (lt (centre_of b) y)
        (not_T (lt (centre_of b) y) (λ (l : T (lt (centre_of b) y)). T_not (lt (centre_of b) x) (failed n.0) (lt_le_transitive (centre_of b) y x l h))),
    none_below_less x y bs h n.1,
  )

  -- ---- the offset of the first
  from_difference : (lo hi c : Float) → Nought (sub f c lo) → Nought (offset_on f lo hi c)
  unfolding offset_on
  from_difference lo hi c h = either (lt lo hi) (div f (sub f c lo) (sub f hi lo)) (sub f c lo) (over_nought f (sub f c lo) (sub f hi lo) h) h

  -- the two ends, where c is the first centre
  abbrev lo_from : Float → List Box → Float
  lo_from c bs = foldl (lower_end_lem f axis) (smaller (Values.largest f) c) bs

  abbrev hi_from : Float → List Box → Float
  hi_from c bs = foldl (upper_end_lem f axis) (larger (Values.least f) c) bs

  abbrev AtStart : Float → List Box → Type 0
  AtStart c bs = Nought (offset_on f (lo_from c bs) (hi_from c bs) c)

  -- below the largest number the first centre is the lower end
  start_below : (c : Float) (bs : List Box) → NoneBelow f axis c bs → lt c (Values.largest f) ≡ true → AtStart c bs
  start_below c bs none e = rw (e, lower_stays c bs none) (from_difference c (hi_from c bs) c (difference_nought f c))

  -- else it is the largest number, and so is the lower end
  start_largest : (c : Float) (bs : List Box) → T (finite c) → T (fits f c) → NoneBelow f axis c bs → lt c (Values.largest f) ≡ false → AtStart c bs
  start_largest c bs fin-c fit none e =
      let above : T (le (Values.largest f) c) = not_lt→le c (Values.largest f) (finite_number c fin-c) (finite_number (Values.largest f) tt) (failed e) in
      let below : T (le c (Values.largest f)) = at_most_largest f c fit fin-c in
      let apart : Nought (sub f c (Values.largest f)) = nought_by_order (sub f c (Values.largest f)) (sub_not_below f c (Values.largest f) fin-c tt above)
      (sub_not_above f c (Values.largest f) fin-c tt below) in
      rw (e, lower_stays (Values.largest f) bs (none_below_less c (Values.largest f) bs above none)) (from_difference (Values.largest f) (hi_from c bs) c apart)

  start_finite : (c : Float) (bs : List Box) → T (finite c) → T (fits f c) → NoneBelow f axis c bs → AtStart c bs
  start_finite c bs fin-c fit none = by_test (lt c (Values.largest f)) (start_below c bs none) (start_largest c bs fin-c fit none)
    where
      by_test : (b : Bool) → (b ≡ true → AtStart c bs) → (b ≡ false → AtStart c bs) → AtStart c bs
      by_test true h k = h refl
      by_test false h k = k refl

  at_infinity : Nought (offset_on f (Values.largest f) (inf false) (inf false))
  unfolding offset_on lt sub add neg div
  at_infinity = tt

  start : (c : Float) (bs : List Box) → T (fits f c) → NoneBelow f axis c bs → AtStart c bs
  unfolding lt le sub add neg div
  start nan bs fit none = from_difference (lo_from nan bs) (hi_from nan bs) nan tt
  start (inf true) bs fit none = start_below (inf true) bs none refl
  start (inf false) bs fit none = rw (lower_stays (Values.largest f) bs (none_below_less (inf false) (Values.largest f) bs tt none), upper_stays bs) at_infinity
  start (fin s m e) bs fit none = start_finite (fin s m e) bs tt fit none

  -- ---- so it is in bucket 0
  first_bucket : (b : Box) (bs : List Box) → NoneBelow f axis (centre_of b) bs → bucket_of f axis (centre_bounds f (b ∷ bs)) b ≡ 0
  unfolding bucket_between bucket_for lower_end_lem upper_end_lem
  first_bucket b bs none =
      let ends : EndsOf axis (centre_bounds f (b ∷ bs)) (lo_from (centre_of b) bs) (hi_from (centre_of b) bs) =
      record { lo_is = lower_end f axis (b ∷ bs); hi_is = upper_end f axis (b ∷ bs) } in
      let share = start (centre_of b) bs (centre_fits b) none in
      ap (λ (bucket : Box → ℕ). bucket b) (sym (bucket_on_axis f axis (centre_bounds f (b ∷ bs)) (lo_from (centre_of b) bs) (hi_from (centre_of b) bs) ends))
      ∙ ap (λ (n : ℕ). min n 11) (cut_nought _ (times_nought f false 3 (pos 2) _ share))

  -- ---- the area rule
  module _ (bucket : Box → ℕ) (best : Cheapest) (k : ℕ) where
    cut_finds : (bs : List Box) → cut_by f bucket best bs ≡ cut_at k → first_later bucket best.index bs 0 ≡ cut_at k
    unfolding cut_by
    cut_finds bs e = picked_first (best.are_numbers && lt best.cost (of_int f (pos (length bs)))) (first_later bucket best.index bs 0) k e

    cut_inside : (b : Box) (bs : List Box) → bucket b ≡ 0 → cut_by f bucket best (b ∷ bs) ≡ cut_at k → CutsInside k (length (b ∷ bs))
    cut_inside b bs first e = later_inside bucket best.index b bs k first (cut_finds (b ∷ bs) e)

    cut_of_none : cut_by f bucket best [] ≡ cut_at k → ⊥
    cut_of_none e = let r = later_within bucket best.index [] 0 k (cut_finds [] e) in omega (arith, r.1)

  -- an area cut leaves boxes on both sides where no centre is below the first: no child of a node is empty
  pub area_inside : (parent : Box) (bs : List Box) (k : ℕ) → FirstIsLeast f axis bs → area_split f axis parent bs ≡ cut_at k → CutsInside k (length bs)
  unfolding area_split
  area_inside parent [] k h e = absurd (cut_of_none (bucket_of f axis (centre_bounds f [])) _ k e)
  area_inside parent (b ∷ bs) k h e = cut_inside (bucket_of f axis (centre_bounds f (b ∷ bs))) _ k b bs (first_bucket b bs h) e
