-- Points of space, which are vectors too, with the source's operations in the source's order: the order decides how results are rounded.
use Rattle.std.specs.Prelude.{Bool, ◌&&◌, Float}
use Rattle.std.specs.Float.{Format}
use Rattle.std.specs.Float.Ieee.{add, sub, mul, div, le}
use Rattle.std.specs.Float.Ieee.Scale.{finite}
use Rattle.spec_numbers.specs.Values as Values
use Rattle.spec_numbers.specs.Hold as Hold
use Rattle.spec_numbers.specs.Axes.{Axis, X, Y, Z}

pub record Point : Type 0 where
  pub x : Float
  pub y : Float
  pub z : Float

-- a coordinate by its axis, so that a law is stated once and not three times
abbrev pub on : Axis → Point → Float
on X a = a.x
on Y a = a.y
on Z a = a.z

abbrev pub at : Point → Axis → Float
at a i = on i a

-- the point with these coordinates
abbrev pub by_axis : (Axis → Float) → Point
by_axis c = record { x = c X; y = c Y; z = c Z }

-- ---- arithmetic, on each axis
unfoldable pub minus : Format → Point → Point → Point
minus f a b = by_axis (λ i. sub f (on i a) (on i b))

unfoldable pub plus : Format → Point → Point → Point
plus f a b = by_axis (λ i. add f (on i a) (on i b))

unfoldable pub scale : Format → Point → Float → Point
scale f a s = by_axis (λ i. mul f (on i a) s)

unfoldable pub divided_by : Format → Point → Float → Point
divided_by f a s = by_axis (λ i. div f (on i a) s)

-- xx + yy + zz, from the left
unfoldable pub dot : Format → Point → Point → Float
dot f a b = add f (add f (mul f a.x b.x) (mul f a.y b.y)) (mul f a.z b.z)

-- yz - zy, zx - xz, xy - yx
unfoldable pub cross : Format → Point → Point → Point
cross f a b = record {
  x = sub f (mul f a.y b.z) (mul f a.z b.y);
  y = sub f (mul f a.z b.x) (mul f a.x b.z);
  z = sub f (mul f a.x b.y) (mul f a.y b.x);
}

-- the squared distance of a surface point a to the query point p: subtract p, then dot
unfoldable pub squared_distance : Format → Point → Point → Float
squared_distance f a p = dot f (minus f a p) (minus f a p)

-- ---- order, on each axis
-- the corners of a union: `min2` and `max2` on each axis
unfoldable pub smallest : Point → Point → Point
smallest a b = by_axis (λ i. Hold.smaller (on i a) (on i b))

unfoldable pub largest : Point → Point → Point
largest a b = by_axis (λ i. Hold.larger (on i a) (on i b))

-- no coordinate of a is above that of b: as a test
unfoldable pub is_under : Point → Point → Bool
is_under a b = le a.x b.x && le a.y b.y && le a.z b.z

unfoldable pub is_finite : Point → Bool
is_finite a = finite a.x && finite a.y && finite a.z

-- each coordinate plus zero, so that no -0 is left
unfoldable pub plus_zero : Point → Point
plus_zero a = by_axis (λ i. Values.plus_zero (on i a))
