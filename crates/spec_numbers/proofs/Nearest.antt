-- Where q lies between p and h, the rounded (q - p)² is at most the rounded (h - p)². So of all numbers of an interval, p held into it
-- is nearest to p in rounded arithmetic too, and so it is on three axes. Differences, squares and sums may overflow to infinities.
use lib.Dec.{T}
use lib.Ieee.{Float, Format, le}
use lib.Ieee.Scale.{finite}
use Rattle.spec_numbers.specs.Values.{zero, Number}
use Rattle.spec_numbers.specs.Hold.{held}
use Rattle.spec_numbers.specs.Axes.{Axis, X, Y, Z, apart2, distance2, Finite, Under}
use Rattle.spec_numbers.proofs.Order.{number_right, finite_number}
use Rattle.spec_numbers.proofs.Difference.{sub_grows, sub_not_below, sub_not_above, sub_number}
use Rattle.spec_numbers.proofs.Square.{square_keeps_order, square_not_below, abs_grows_upward, abs_grows_downward}
use Rattle.spec_numbers.proofs.Sum.{sum_keeps_order, sum_not_below}
use Rattle.spec_numbers.proofs.Hold.{Between, upward, downward, held_between, held_finite}

-- ---- on one axis
apart_not_below : (f : Format) (a p : Float) → T (finite a) → T (finite p) → T (le zero (apart2 f a p))
apart_not_below f a p A P = square_not_below f _ (sub_number f _ _ A P)

between_is_nearer : (f : Format) {p q h : Float} → T (finite p) → T (finite q) → T (finite h) → Between p q h → T (le (apart2 f q p) (apart2 f h p))
between_is_nearer f P Q H (upward l k) = square_keeps_order f _ _ (abs_grows_upward _ _ (sub_not_below f _ _ Q P l) (sub_grows f _ _ _ Q H P k))
between_is_nearer f P Q H (downward k l) = square_keeps_order f _ _ (abs_grows_downward _ _ (sub_not_above f _ _ Q P l) (sub_grows f _ _ _ H Q P k))

-- of all numbers of an interval, the one that a number is held to is nearest to it: the law on one axis
pub held_is_nearest : (f : Format) (lo hi p h : Float) → T (finite lo) → T (finite hi) → T (finite p) → T (finite h) → T (le lo h) → T (le h hi)
    → T (le (apart2 f (held lo hi p) p) (apart2 f h p))
held_is_nearest f lo hi p h L U P H l k = between_is_nearer f P (held_finite _ _ _ L U P) H (held_between lo hi p h (finite_number _ P) l k)

-- ---- on three
module _ (f : Format) (p : Axis → Float) (P : Finite p) where
  -- a squared distance of finite points is not below zero, so what is at most zero is zero
  pub distance_not_below : (a : Axis → Float) → Finite a → T (le zero (distance2 f a p))
  distance_not_below a A =
      let d : (i : Axis) → T (le zero (apart2 f (a i) (p i))) = λ i. apart_not_below f _ _ (A i) (P i) in
      sum_not_below f _ _ (sum_not_below f _ _ (d X) (d Y)) (d Z)

  -- a squared distance of finite points is no NaN, so distances compare
  pub distance_number : (a : Axis → Float) → Finite a → Number (distance2 f a p)
  distance_number a A = number_right _ _ (distance_not_below a A)

  -- nearer on each axis is nearer
  nearer_on_each : (a b : Axis → Float) → Finite a → ((i : Axis) → T (le (apart2 f (a i) (p i)) (apart2 f (b i) (p i))))
      → T (le (distance2 f a p) (distance2 f b p))
  nearer_on_each a b A h =
      let d : (i : Axis) → T (le zero (apart2 f (a i) (p i))) = λ i. apart_not_below f _ _ (A i) (P i) in
      sum_keeps_order f _ _ _ _ (sum_not_below f _ _ (d X) (d Y)) (d Z) (sum_keeps_order f _ _ _ _ (d X) (d Y) (h X) (h Y)) (h Z)

  -- of all points of a box, the query point held into it is nearest: no point in the box is closer than the box
  pub held_is_nearest_of_three : (lo hi h : Axis → Float) → Finite lo → Finite hi → Finite h → Under lo h → Under h hi
      → T (le (distance2 f (λ i. held (lo i) (hi i) (p i)) p) (distance2 f h p))
  held_is_nearest_of_three lo hi h L U H l k =
      nearer_on_each (λ i. held (lo i) (hi i) (p i)) h (λ i. held_finite _ _ _ (L i) (U i) (P i))
      (λ i. held_is_nearest f _ _ _ _ (L i) (U i) (P i) (H i) (l i) (k i))
