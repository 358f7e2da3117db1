-- The solid angle of a triangle from a point, and the winding number of triangles about it, with the source's operations in the source's order.
use Rattle.std.specs.Prelude.{false, ◌||◌, cond, ℕ, suc, pos, Float}
use Prim.Native.Nat as Nat
use Rattle.std.specs.Float.{fin, Format, binary32, binary64}
use Rattle.std.specs.Float.Ieee.{add, mul, div, eq, of_bits}
use Rattle.spec_numbers.specs.Values.{zero, one, two}
use Rattle.spec_shapes.specs.Points.{Point, minus, divided_by, dot, cross}
use Rattle.spec_shapes.specs.Triangles.{Triangle}
use Rattle.spec_angles.specs.Root.{root_or_nan}
use Rattle.spec_angles.specs.Angle.{angle_or_nan}

-- ---- the solid angle
-- the length of a vector
unfoldable pub norm : Format → Point → Float
norm f a = root_or_nan f (dot f a a)

-- the triangle seen from q: q is the origin
unfoldable pub seen_from : Format → Point → Triangle → Triangle
seen_from f q t = record { a = minus f t.a q; b = minus f t.b q; c = minus f t.c q }

-- numerator and denominator of the tangent of half the solid angle, for corners that are directions, of length 1
unfoldable pub numerator : Format → Triangle → Float
numerator f t = dot f t.a (cross f (minus f t.b t.a) (minus f t.c t.a))

unfoldable pub denominator : Format → Triangle → Float
denominator f t = add f (add f (add f one (dot f t.a t.b)) (dot f t.a t.c)) (dot f t.b t.c)

-- the solid angle of three directions; zero where the numerator is, since the point is then in the triangle's plane
unfoldable pub unit_angle : Format → Triangle → Float
unit_angle f t = cond (eq (numerator f t) zero) zero (mul f (angle_or_nan f (numerator f t) (denominator f t)) two)

-- the solid angle from the origin; zero where a corner is there, since that has no direction
unfoldable pub origin_angle : Format → Triangle → Float
origin_angle f t =
    let a = norm f t.a in
    let b = norm f t.b in
    let c = norm f t.c in
    cond (eq a zero || eq b zero || eq c zero) zero (unit_angle f record { a = divided_by f t.a a; b = divided_by f t.b b; c = divided_by f t.c c })

-- the solid angle of a triangle from the point q
unfoldable pub solid_angle : Format → Triangle → Point → Float
solid_angle f t q = origin_angle f (seen_from f q t)

-- ---- the winding number
-- the sum of the solid angles of the first k triangles, in their order
unfoldable pub sum_of : Format → (ℕ → Triangle) → Point → ℕ → Float
sum_of f triangle q Nat.zero = zero
sum_of f triangle q (suc k) = add f (sum_of f triangle q k) (solid_angle f (triangle k) q)

-- PI: of binary32 it is 40490FDB
abbrev pub pi : Format → Float
pi binary32 = of_bits binary32 0x4049_0fdb
pi binary64 = of_bits binary64 0x4009_21fb_5444_2d18

abbrev pub four : Float
four = fin false 1 (pos 2)

-- the sum over 4 PI
unfoldable pub winding_number : Format → (ℕ → Triangle) → (count : ℕ) → Point → Float
winding_number f triangle count q = div f (sum_of f triangle q count) (mul f four (pi f))
