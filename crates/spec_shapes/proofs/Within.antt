-- Bounds that the operations on points keep: sums, differences and products of bounded points are bounded, and so finite.
use mathlib.Core.Bool.{◌&&◌}
use Prim.Native.Nat.{ℕ, ◌+◌, ◌*◌, ◌^◌, ◌≤◌}
use native.Mathlib.Nat.{le_trans}
use lib.Dec.{T, lit≤}
use lib.Ieee.{Float, Format, add, mul}
use lib.Ieee.Fits.{and_i}
use lib.Ieee.Scale.{finite}
use Rattle.spec_numbers.specs.Axes.{Axis, X, Y, Z}
use Rattle.spec_numbers.proofs.Within.{Within, Whole, wide, power_whole, within_more, add_within, sub_within, mul_within}
use Rattle.spec_shapes.specs.Points.{Point, on, minus, plus, scale, dot, cross, is_finite}

-- every coordinate is finite, and at most c in magnitude
abbrev pub PointWithin : ℕ → Point → Type 0
PointWithin c a = (i : Axis) → Within c (on i a)

-- a bound may be widened
pub point_within_more : {b c : ℕ} (a : Point) → b ≤ c → PointWithin b a → PointWithin c a
point_within_more a h A i = within_more (on i a) h (A i)

module _ (f : Format) (b c : ℕ) (a p : Point) (A : PointWithin b a) (P : PointWithin c p) where
  -- a difference of bounded points is bounded on each axis
  pub minus_within : Whole f (b + c) → PointWithin (b + c) (minus f a p)
  unfolding minus
  minus_within w X = sub_within f b c _ _ w (A X) (P X)
  minus_within w Y = sub_within f b c _ _ w (A Y) (P Y)
  minus_within w Z = sub_within f b c _ _ w (A Z) (P Z)

  -- and so is a sum
  pub plus_within : Whole f (b + c) → PointWithin (b + c) (plus f a p)
  unfolding plus
  plus_within w X = add_within f b c _ _ w (A X) (P X)
  plus_within w Y = add_within f b c _ _ w (A Y) (P Y)
  plus_within w Z = add_within f b c _ _ w (A Z) (P Z)

  -- a dot product of bounded points is bounded, so no product and no sum overflows
  pub dot_within : Whole f (b * c) → Whole f (b * c + b * c) → Whole f (b * c + b * c + b * c) → Within (b * c + b * c + b * c) (dot f a p)
  unfolding dot
  dot_within w w2 w3 =
      add_within f (b * c + b * c) (b * c) _ _ w3
      (add_within f (b * c) (b * c) _ _ w2 (mul_within f b c _ _ w (A X) (P X)) (mul_within f b c _ _ w (A Y) (P Y)))
      (mul_within f b c _ _ w (A Z) (P Z))

  -- and so is a cross product on each axis
  pub cross_within : Whole f (b * c) → Whole f (b * c + b * c) → PointWithin (b * c + b * c) (cross f a p)
  unfolding cross
  cross_within w w2 X = sub_within f (b * c) (b * c) _ _ w2 (mul_within f b c _ _ w (A Y) (P Z)) (mul_within f b c _ _ w (A Z) (P Y))
  cross_within w w2 Y = sub_within f (b * c) (b * c) _ _ w2 (mul_within f b c _ _ w (A Z) (P X)) (mul_within f b c _ _ w (A X) (P Z))
  cross_within w w2 Z = sub_within f (b * c) (b * c) _ _ w2 (mul_within f b c _ _ w (A X) (P Y)) (mul_within f b c _ _ w (A Y) (P X))

-- a bounded point times a bounded number is bounded on each axis
pub scale_within : (f : Format) (b c : ℕ) (a : Point) (s : Float) → PointWithin b a → Within c s → Whole f (b * c) → PointWithin (b * c) (scale f a s)
unfolding scale
scale_within f b c a s A S w X = mul_within f b c _ _ w (A X) S
scale_within f b c a s A S w Y = mul_within f b c _ _ w (A Y) S
scale_within f b c a s A S w Z = mul_within f b c _ _ w (A Z) S

-- ---- for coordinates in range, which are within 2 ^ 20
-- powers of two up to 2 ^ 45 are values of the format
pub power : (f : Format) (k : ℕ) → k ≤ 45 → Whole f (2 ^ k)
power f k h = power_whole f k (le_trans h (wide f))

-- the difference of two points in range
pub difference_within : (f : Format) (a p : Point) → PointWithin (2 ^ 20) a → PointWithin (2 ^ 20) p → PointWithin (2 ^ 21) (minus f a p)
difference_within f a p A P = minus_within f (2 ^ 20) (2 ^ 20) a p A P (power f 21 (lit≤ tt))

-- the dot product of two differences does not overflow
pub dot_of_differences : (f : Format) (a p : Point) → PointWithin (2 ^ 21) a → PointWithin (2 ^ 21) p → Within (2 ^ 44) (dot f a p)
unfolding dot
dot_of_differences f a p A P = add_within f (2 ^ 43) (2 ^ 43) _ _ (power f 44 (lit≤ tt)) two (within_more _ (lit≤ tt) (product Z))
  where
    product : (i : Axis) → Within (2 ^ 42) (mul f (on i a) (on i p))
    product i = mul_within f (2 ^ 21) (2 ^ 21) _ _ (power f 42 (lit≤ tt)) (A i) (P i)

    two : Within (2 ^ 43) (add f (mul f (on X a) (on X p)) (mul f (on Y a) (on Y p)))
    two = add_within f (2 ^ 42) (2 ^ 42) _ _ (power f 43 (lit≤ tt)) (product X) (product Y)

-- ---- the test
-- a bounded point is finite, as the test has it
pub within_is_finite : (c : ℕ) (a : Point) → PointWithin c a → T (is_finite a)
unfolding is_finite
within_is_finite c a A =
    and_i (finite a.x && finite a.y) (finite a.z) (and_i (finite a.x) (finite a.y) (A X).is_finite (A Y).is_finite) (A Z).is_finite
