-- The area rule as code works it out: the centres' bounds and the bucket on one axis, the bucket by two tests, and the loops that store
-- the costs, take the first smallest and look for the first object in a later bucket.
use mathlib.Core.Path.{◌≡◌, refl, sym, ap, ◌∙◌}
use mathlib.Core.Logic.{inl, inr}
use mathlib.Core.Bool.{Bool, true, false, not, cond}
use mathlib.Core.List.{List, [], ◌∷◌, map, foldl}
use Prim.Native.Nat.{ℕ, zero, suc, min, ◌+◌, ◌*◌, ◌/◌, ◌-◌, ◌^◌, ◌≤◌, ◌<◌}
use native.Mathlib.Nat.{zero-add, min-eq_left, min-eq_right, min-le_left, min-le_right, le-min, le_trans, le_of_lt, le-div_iff_mul-le, div-lt_iff_lt-mul}
use native.Mathlib.Omega.{arith}
use borrow.Author.Count.{below_more}
use lib.Dec.{T, T_not, lit≤, ltb}
use lib.IntN.{ℤ, pos}
use lib.ListN.{length, get_or, drop, set, length-map}
use lib.Seq.{ext_get_or, get_or-set_same, get_or-set_other}
use lib.Ieee.{Float, Format, nan, inf, fin, up, down, le, lt, eq, is_nan, to_unsigned}
use lib.Ieee.Bits.{is_true}
use lib.Ieee.Fits.{down_pos}
use Rattle.spec_numbers.specs.Values as Values
use Rattle.spec_numbers.specs.Hold.{smaller, larger}
use Rattle.spec_numbers.specs.Axes.{Axis}
use Rattle.spec_numbers.proofs.Fraction.{compared}
use Rattle.spec_numbers.proofs.Order.{reflexive, antisymmetric, lt_or_le, lt_le_transitive, number_right, finite_number}
use Rattle.spec_numbers.proofs.Whole.{cut_below_zero}
use Rattle.spec_shapes.specs.Points.{on}
use Rattle.spec_shapes.specs.Boxes.{Box, empty, union_point, centre, offset_on, offset}
use Rattle.spec_shapes.proofs.OnAxes.{on_by_axis, smallest_on, largest_on}
use Rattle.spec_splits.specs.Splits.{Split, cut_at, nowhere}
use Rattle.spec_splits.specs.Buckets.{bucket_count}
use Rattle.spec_splits.specs.Area.{with_centre, centre_bounds, bucket_for, bucket_of, EndsOf, bucket_between, up_from, Cheapest, with_cost, first_later}
use Rattle.spec_splits.proofs.Table.{at_map}
use Rattle.spec_splits.proofs.Turns.{look_here, look_on, look_ended}

-- ---- a bucket's number is below twelve
capped_below : (n : ℕ) → min n 11 < bucket_count
capped_below n = omega (arith, min-le_right n 11)

-- so a bucket number is an index into the twelve
pub between_below : (f : Format) (axis : Axis) (lo hi : Float) (b : Box) (k : ℕ) → k ≡ bucket_between f axis lo hi b → k < bucket_count
unfolding bucket_between bucket_for
between_below f axis lo hi b k e = rw e (capped_below _)

-- ---- the bucket is worked out on the one axis, between the two ends of the centres' bounds there
abbrev pub centre_on : Format → Axis → Box → Float
centre_on f axis b = on axis (centre f b)

on_axis : (f : Format) (axis : Axis) (bounds : Box) → bucket_between f axis (on axis bounds.min) (on axis bounds.max) ≡ bucket_of f axis bounds
unfolding bucket_of bucket_between offset
on_axis f axis bounds j b =
    bucket_for f (sym (on_by_axis (λ i. offset_on f (on i bounds.min) (on i bounds.max) (on i (centre f b))) axis) j)

-- with the ends of the bounds on the axis, the bucket is the rule's
pub bucket_on_axis : (f : Format) (axis : Axis) (bounds : Box) (lo hi : Float) → EndsOf axis bounds lo hi → bucket_between f axis lo hi
    ≡ bucket_of f axis bounds
bucket_on_axis f axis bounds lo hi ends = rw (ends.lo_is, ends.hi_is) (on_axis f axis bounds)

-- ---- the two ends, joined on the one axis
unfoldable pub lower_end_lem : Format → Axis → Float → Box → Float
lower_end_lem f axis lo b = smaller lo (centre_on f axis b)

unfoldable pub upper_end_lem : Format → Axis → Float → Box → Float
upper_end_lem f axis hi b = larger hi (centre_on f axis b)

module _ (f : Format) (axis : Axis) where
  lower_ends : (bs : List Box) (bounds : Box) → foldl (lower_end_lem f axis) (on axis bounds.min) bs ≡ on axis (foldl (with_centre f) bounds bs).min
  unfolding lower_end_lem with_centre union_point
  lower_ends [] bounds = refl
  lower_ends (b ∷ bs) bounds =
      ap (λ (x : Float). foldl (lower_end_lem f axis) x bs) (sym (smallest_on bounds.min (centre f b) axis)) ∙ lower_ends bs (with_centre f bounds b)

  upper_ends : (bs : List Box) (bounds : Box) → foldl (upper_end_lem f axis) (on axis bounds.max) bs ≡ on axis (foldl (with_centre f) bounds bs).max
  unfolding upper_end_lem with_centre union_point
  upper_ends [] bounds = refl
  upper_ends (b ∷ bs) bounds =
      ap (λ (x : Float). foldl (upper_end_lem f axis) x bs) (sym (largest_on bounds.max (centre f b) axis)) ∙ upper_ends bs (with_centre f bounds b)

  -- the minimum of the centres on the axis is the lower end of their bounds: code keeps no bounds on the other axes
  pub lower_end : (bs : List Box) → foldl (lower_end_lem f axis) (Values.largest f) bs ≡ on axis (centre_bounds f bs).min
  unfolding centre_bounds empty
  lower_end bs = ap (λ (x : Float). foldl (lower_end_lem f axis) x bs) (sym (on_by_axis (λ i. Values.largest f) axis)) ∙ lower_ends bs (empty f)

  -- the maximum of the centres on the axis is the upper end of their bounds
  pub upper_end : (bs : List Box) → foldl (upper_end_lem f axis) (Values.least f) bs ≡ on axis (centre_bounds f bs).max
  unfolding centre_bounds empty
  upper_end bs = ap (λ (x : Float). foldl (upper_end_lem f axis) x bs) (sym (on_by_axis (λ i. Values.least f) axis)) ∙ upper_ends bs (empty f)

-- ---- cut to a whole number, at most 11: from 11 on it is 11; below that and not below 0 it is the whole part; else it is 0
abbrev eleven : Float
eleven = fin false 11 (pos 0)

abbrev pub up_to11 : Float → ℕ
up_to11 x = min (Values.cut x) 11

abbrev most : ℕ
most = 2 ^ 64 - 1

capped : (q : ℕ) → 11 ≤ q → 11 ≡ min (min q most) 11
capped q h = sym (min-eq_right (le-min h (lit≤ tt)))

kept : (q : ℕ) → q < 11 → min q most ≡ min (min q most) 11
kept q h = sym (min-eq_left (le_trans (min-le_left q most) (le_of_lt h)))

below_eleven : (x : Float) → T (not (le eleven x)) → T (le Values.zero x) → T (lt x eleven)
below_eleven x h k = elim (lt_or_le x eleven (number_right _ _ k) (finite_number eleven tt)) [ inl l ↦ l | inr l ↦ absurd (T_not (le eleven x) h l) ]

-- the first test: from 11 on the bucket is 11
pub from_eleven : (x : Float) → T (le eleven x) → 11 ≡ up_to11 x
unfolding to_unsigned le
from_eleven (inf false) h = refl
from_eleven (fin true m e) h = absurd (omega (arith, (compared eleven (fin true m e) tt tt).le→at_most h, down_pos e))
from_eleven (fin false m e) h =
    capped (m * up e / down e) ((le-div_iff_mul-le (down_pos e)).1 (omega (arith, (compared eleven (fin false m e) tt tt).le→at_most h)))
from_eleven nan h = elim h [ ]
from_eleven (inf true) h = elim h [ ]

-- the second test: below zero, and for a NaN, the bucket is 0
pub below_zero : (x : Float) → T (not (le Values.zero x)) → 0 ≡ up_to11 x
below_zero x h = rw (cut_below_zero 64 x h)

small : (m : ℕ) (e : ℤ) → T (lt (fin false m e) eleven) → m * up e / down e < 11
small m e h = (div-lt_iff_lt-mul (down_pos e)).1 (omega (arith, (compared (fin false m e) eleven tt tt).lt→less h))

-- between the two tests the bucket is the whole slice
pub below_eleven_kept : (x : Float) → T (not (le eleven x)) → T (le Values.zero x) → to_unsigned 64 x ≡ up_to11 x
unfolding to_unsigned le
below_eleven_kept (inf true) h k = absurd k
below_eleven_kept (fin true m e) h k = refl
below_eleven_kept (fin false m e) h k = kept (m * up e / down e) (small m e (below_eleven (fin false m e) h k))
below_eleven_kept nan h k = elim k [ ]
below_eleven_kept (inf false) h k = elim h [ ]

-- what a plain cast needs: between the two tests the number is below its limit
pub below_limit : (x : Float) → T (not (le eleven x)) → T (le Values.zero x) → T (lt x (fin false 1 (pos 64)))
below_limit x h k = lt_le_transitive x eleven (fin false 1 (pos 64)) (below_eleven x h k) (unfold le in tt)

-- ---- a number is equal to itself
-- the test for a NaN in code: a cost is a number where it is equal to itself
pub equal_to_itself : (x : Float) → eq x x ≡ not (is_nan x)
unfolding is_nan
equal_to_itself nan = unfold eq in refl
equal_to_itself (inf s) = is_true _ (antisymmetric (inf s) (inf s) (reflexive (inf s) tt) (reflexive (inf s) tt))
equal_to_itself (fin s m e) = is_true _ (antisymmetric (fin s m e) (fin s m e) (reflexive (fin s m e) tt) (reflexive (fin s m e) tt))

-- ---- the numbers from k on
up_length : (k n : ℕ) → length (up_from k n) ≡ n
unfolding up_from
up_length k zero = refl
up_length k (suc n) = ap suc (up_length (suc k) n)

up_at : (k n i : ℕ) → i < n → get_or (up_from k n) i 0 ≡ k + i
unfolding up_from
up_at k zero i h = absurd (omega arith)
up_at k (suc n) zero h = omega arith
up_at k (suc n) (suc i) h = up_at (suc k) n i (omega arith) ∙ omega arith

-- ---- a list that is stored to from the front
module _ (g : ℕ → Float) (l : List Float) (i : ℕ) where
  -- a turn of the loop that stores the costs: one more entry has its value
  pub stored_on : (v : Float) → i < length l → v ≡ g i → ((k : ℕ) → k < i → get_or l k nan ≡ g k) → (k : ℕ) → k < i + 1 → get_or (set l i v) k nan ≡ g k
  stored_on v h e before =
      below_more _ i (λ (k : ℕ) (b : k < i). get_or-set_other l i k v nan (λ (q : k ≡ i). omega arith) ∙ before k b) (get_or-set_same l i v nan h ∙ e)

  -- after the last turn the list is the one that the rule defines
  pub stored_all : (n : ℕ) → length l ≡ n → ((k : ℕ) → k < n → get_or l k nan ≡ g k) → l ≡ map g (up_from 0 n)
  stored_all n e all =
      ext_get_or nan l (map g (up_from 0 n)) (e ∙ sym (length-map (up_from 0 n) g ∙ up_length 0 n))
      (λ (k : ℕ) (h : k < length l).
      let b : k < n = omega (arith, e) in
      let c : k < length (up_from 0 n) = omega (arith, up_length 0 n) in
      all k b ∙ sym (at_map g (up_from 0 n) k 0 nan c ∙ ap g (up_at 0 n k b ∙ zero-add k)))

-- ---- one cost more is seen
-- so the count of costs seen is the index of the next one
pub seen_goes_on : (now next : Cheapest) (v : Float) (i : ℕ) → next ≡ with_cost now v → now.seen ≡ i → next.seen ≡ i + 1
unfolding with_cost
seen_goes_on now next v i e h = let one : next.seen ≡ now.seen + 1 = ap (λ (s : Cheapest). s.seen) e in omega arith

-- ---- a loop that looks for the first object in a later bucket
module _ (bucket : Box → ℕ) (last : ℕ) (box : ℕ → Box) (l : List ℕ) (i : ℕ) (whole : Split) where
  remaining : List ℕ → ℕ → Split
  remaining m k = first_later bucket last (map box m) k

  -- what the test picks
  picks : Bool → Split
  picks b = cond b (cut_at i) (first_later bucket last (map box (drop (suc i) l)) (suc i))

  -- an object in a later bucket settles it: the cut is before this object
  pub looking_finds : i < length l → ltb last (bucket (box (get_or l i 0))) ≡ true → first_later bucket last (map box (drop i l)) i ≡ whole → cut_at i ≡ whole
  unfolding remaining first_later picks
  looking_finds h e inv = sym (ap picks e) ∙ look_here 0 remaining l i whole h inv

  -- any other object leaves the answer to those that remain
  pub looking_goes_on : i < length l → ltb last (bucket (box (get_or l i 0))) ≡ false → first_later bucket last (map box (drop i l)) i ≡ whole
      → first_later bucket last (map box (drop (i + 1) l)) (i + 1) ≡ whole
  unfolding remaining first_later picks
  looking_goes_on h e inv = look_on 0 remaining l i whole h (ap picks e) inv

  -- at the end there is no cut
  pub looking_ends : length l ≤ i → first_later bucket last (map box (drop i l)) i ≡ whole → nowhere ≡ whole
  unfolding remaining first_later
  looking_ends h inv = look_ended 0 remaining l i whole h inv
