-- The winding numbers of lists that pass are finite numbers (`winding_finite`): vectors, directions, angles and sums stay within bounds.
use mathlib.Core.Path.{ap, ◌∙◌}
use mathlib.Core.Bool.{Bool, true, false, not, ◌&&◌, ◌||◌, cond}
use mathlib.Core.List.{List}
use Prim.Native.Nat.{ℕ, suc, ◌+◌, ◌*◌, ◌^◌, ◌≤◌, ◌<◌}
use Prim.Native.Nat as Nat
use native.Mathlib.Nat.{le_trans, le_of_eq, lt_of_lt_of_le, mul-pos, mul_assoc, mul_comm, mul-le-mul}
use native.Mathlib.Omega.{arith}
use lib.Dec.{T, lit≤, lit<, eqb-suc-zero}
use lib.Pow.{pow_pos, pow_mono}
use lib.Ieee.{Float, fin, Format, binary32, binary64, prec, up, down, round, mul, div, lt, eq, fits, of_bits, inf, nan}
use lib.Ieee.Fits.{and_i, down_pos, sub-fits}
use lib.Ieee.Bits.{is_true}
use lib.Ieee.Positive.{num, den}
use lib.Ieee.Scale.{finite}
use Rattle.spec_numbers.specs.Values.{zero, one, two, unsigned}
use Rattle.spec_numbers.specs.Axes.{Axis, X, Y, Z}
use Rattle.spec_shapes.specs.Points.{Point, on, minus, divided_by, dot}
use Rattle.spec_shapes.specs.Triangles.{Triangle}
use Rattle.spec_shapes.proofs.Within.{PointWithin, minus_within, difference_within, dot_within, cross_within}
use Rattle.spec_lists.specs.Reading.{triangle_at, triangle_count, point_count}
use Rattle.spec_lists.specs.Passed.{GoodTriangles, GoodPoints}
use Rattle.spec_lists.proofs.Reading.{triangle_inside, point_inside}
use Rattle.spec_lists.proofs.Within.{point_within}
use Rattle.spec_angles.specs.Angle.{arc_tangent, angle, askable, angle_or_nan}
use Rattle.spec_angles.specs.Winding as Winding
use Rattle.spec_angles.specs.Windings.{winding_about, winding_at}
use Rattle.spec_angles.proofs.Needs.{askable_is}
use Rattle.spec_angles.proofs.Arc.{angle_most}
use Rattle.spec_numbers.proofs.Within.{Within, Whole, small_whole, within_more, round_within, add_within, mul_within}
use Rattle.spec_angles.proofs.Directions.{direction_within}

few : (f : Format) (c : ℕ) → c < 2 ^ 24 → Whole f c
few f c h = small_whole f c (lt_of_lt_of_le h (pow_mono (digits f)))
  where
    digits : (f : Format) → 24 ≤ prec f
    digits binary32 = lit≤ tt
    digits binary64 = lit≤ tt

-- ---- an angle
angle_within : (f : Format) (n d : Float) → T (finite n) → T (finite d) → T (not (eq n zero)) → Within 4 (angle_or_nan f n d)
unfolding angle_or_nan arc_tangent
angle_within f n d N D s =
    let t : T (askable n d) = and_i (finite n && finite d) (not (eq n zero)) (and_i (finite n) (finite d) N D) s in
    rw (is_true (askable n d) t)
    (round_within f (lt n zero) (angle f n d) (2 ^ 30) 4 (pow_pos 30) (few f 4 (lit< tt)) (le_trans (angle_most f n d (askable_is n d t)) (lit≤ tt)))

-- ---- the solid angle
zero_within : (c : ℕ) → Within c zero
zero_within c = record { is_finite = tt; most = omega arith }

one_within : Within 1 one
one_within = record { is_finite = tt; most = lit≤ tt }

two_within : Within 2 two
two_within = record { is_finite = tt; most = lit≤ tt }

module _ (f : Format) (t : Triangle) (A : PointWithin 2 t.a) (B : PointWithin 2 t.b) (C : PointWithin 2 t.c) where
  numerator_within : Within 192 (Winding.numerator f t)
  unfolding Winding.numerator
  numerator_within =
      dot_within f 2 32 t.a _ A
      (cross_within f 4 4 _ _ (minus_within f 2 2 _ _ B A (few f 4 (lit< tt))) (minus_within f 2 2 _ _ C A (few f 4 (lit< tt))) (few f 16 (lit< tt))
      (few f 32 (lit< tt)))
      (few f 64 (lit< tt)) (few f 128 (lit< tt)) (few f 192 (lit< tt))

  pair_within : (a p : Point) → PointWithin 2 a → PointWithin 2 p → Within 12 (dot f a p)
  pair_within a p A P = dot_within f 2 2 a p A P (few f 4 (lit< tt)) (few f 8 (lit< tt)) (few f 12 (lit< tt))

  denominator_within : Within 37 (Winding.denominator f t)
  unfolding Winding.denominator
  denominator_within =
      add_within f 25 12 _ _ (few f 37 (lit< tt))
      (add_within f 13 12 _ _ (few f 25 (lit< tt)) (add_within f 1 12 _ _ (few f 13 (lit< tt)) one_within (pair_within _ _ A B)) (pair_within _ _ A C))
      (pair_within _ _ B C)

  unit_angle_within : Within 8 (Winding.unit_angle f t)
  unfolding Winding.unit_angle
  unit_angle_within = go (eq (Winding.numerator f t) zero) (λ h. h)
    where
      go : (b : Bool) → (T (not b) → T (not (eq (Winding.numerator f t) zero)))
          → Within 8 (cond b zero (mul f (angle_or_nan f (Winding.numerator f t) (Winding.denominator f t)) two))
      go true h = zero_within 8
      go false h = mul_within f 4 2 _ _ (few f 8 (lit< tt)) (angle_within f _ _ numerator_within.is_finite denominator_within.is_finite (h tt)) two_within

-- a triangle of bounded corners that the format holds
pub record Bounded (f : Format) (a : Point) : Type 0 where
  pub inside : (i : Axis) → Within (2 ^ 21) (on i a)
  pub holds : (i : Axis) → T (fits f (on i a))

over_inside : (f : Format) (a : Point) → Bounded f a → T (not (eq (Winding.norm f a) zero)) → PointWithin 2 (divided_by f a (Winding.norm f a))
unfolding divided_by
over_inside f a A n X = direction_within f a A.inside A.holds n X
over_inside f a A n Y = direction_within f a A.inside A.holds n Y
over_inside f a A n Z = direction_within f a A.inside A.holds n Z

origin_angle_within : (f : Format) (t : Triangle) → Bounded f t.a → Bounded f t.b → Bounded f t.c → Within 8 (Winding.origin_angle f t)
unfolding Winding.origin_angle
origin_angle_within f t A B C = go (eq a zero) (eq b zero) (eq c zero) (λ h. h) (λ h. h) (λ h. h)
  where
    a : Float
    a = Winding.norm f t.a

    b : Float
    b = Winding.norm f t.b

    c : Float
    c = Winding.norm f t.c

    go : (x y z : Bool) → (T (not x) → T (not (eq a zero))) → (T (not y) → T (not (eq b zero))) → (T (not z) → T (not (eq c zero)))
        → Within 8 (cond (x || y || z) zero (Winding.unit_angle f record { a = divided_by f t.a a; b = divided_by f t.b b; c = divided_by f t.c c }))
    go true y z h k l = zero_within 8
    go false true z h k l = zero_within 8
    go false false true h k l = zero_within 8
    go false false false h k l = unit_angle_within f _ (over_inside f t.a A (h tt)) (over_inside f t.b B (k tt)) (over_inside f t.c C (l tt))

-- ---- from a point, with coordinates up to 2 ^ 20
minus_fits : (f : Format) (a q : Point) (i : Axis) → T (fits f (on i (minus f a q)))
unfolding minus
minus_fits f a q X = sub-fits f _ _
minus_fits f a q Y = sub-fits f _ _
minus_fits f a q Z = sub-fits f _ _

seen : (f : Format) (a q : Point) → PointWithin (2 ^ 20) a → PointWithin (2 ^ 20) q → Bounded f (minus f a q)
seen f a q A Q = record { inside = difference_within f a q A Q; holds = minus_fits f a q }

solid_angle_within : (f : Format) (t : Triangle) (q : Point) → PointWithin (2 ^ 20) t.a → PointWithin (2 ^ 20) t.b → PointWithin (2 ^ 20) t.c
    → PointWithin (2 ^ 20) q → Within 8 (Winding.solid_angle f t q)
unfolding Winding.solid_angle Winding.seen_from
solid_angle_within f t q A B C Q = origin_angle_within f _ (seen f t.a q A Q) (seen f t.b q B Q) (seen f t.c q C Q)

-- ---- the sum, and the winding number
-- 4 * PI is 1 at least, so a quotient by it is not larger
record Turn (l : Float) : Type 0 where
  is_unsigned : T (unsigned l)
  some : 0 < num l
  least : den l ≤ num l

turn : (f : Format) → Turn (mul f Winding.four (Winding.pi f))
unfolding mul round of_bits
turn binary32 = record { is_unsigned = tt; some = lit≤ tt; least = lit≤ tt }
turn binary64 = record { is_unsigned = tt; some = lit≤ tt; least = lit≤ tt }

quotient_shrinks : (f : Format) (c : ℕ) (x l : Float) → Whole f c → T (finite x) → num x ≤ c * den x → T (unsigned l) → 0 < num l → den l ≤ num l
    → Within c (div f x l)
unfolding div
quotient_shrinks f c (fin t m e) (fin false Nat.zero d) w F h U s k = absurd (omega arith)
quotient_shrinks f c (fin t m e) (fin false (suc n) d) w F h U s k =
    rw (eqb-suc-zero n)
    (round_within f _ (m * up e * down d) (suc n * up d * down e) c (mul-pos s (down_pos e)) w
    (le_trans (mul-le-mul h k) (le_of_eq (mul_assoc c (down e) (suc n * up d) ∙ ap (λ (z : ℕ). c * z) (mul_comm (down e) (suc n * up d))))))
quotient_shrinks f c nan l w F h U s k = elim F [ ]
quotient_shrinks f c (inf _) l w F h U s k = elim F [ ]
quotient_shrinks f c (fin t m e) nan w F h U s k = elim U [ ]
quotient_shrinks f c (fin t m e) (inf _) w F h U s k = elim U [ ]
quotient_shrinks f c (fin t m e) (fin true _ d) w F h U s k = elim U [ ]

shrunk : (f : Format) (c : ℕ) (x l : Float) → Whole f c → Within c x → Turn l → Within c (div f x l)
shrunk f c x l w W L = quotient_shrinks f c x l w W.is_finite W.most L.is_unsigned L.some L.least

module _ (f : Format) (triangle : ℕ → Triangle) (q : Point) (count : ℕ) (most : count ≤ 2 ^ 20)
    (each : (k : ℕ) → k < count → Within 8 (Winding.solid_angle f (triangle k) q)) where
  sum_within : (k : ℕ) → k ≤ count → Within (8 * k) (Winding.sum_of f triangle q k)
  unfolding Winding.sum_of
  sum_within Nat.zero h = zero_within _
  sum_within (suc k) h =
      within_more _ (omega arith) (add_within f (8 * k) 8 _ _ (few f (8 * k + 8) (omega arith)) (sum_within k (omega arith)) (each k (omega arith)))

  number_within : Within (8 * count) (Winding.winding_number f triangle count q)
  unfolding Winding.winding_number
  number_within = shrunk f (8 * count) _ _ (few f (8 * count) (omega arith)) (sum_within count (omega arith)) (turn f)

-- ---- lists that passed
module _ (f : Format) (triangles points : List Float) (T' : GoodTriangles triangles) (P' : GoodPoints points) where
  each_angle : (q : Point) → PointWithin (2 ^ 20) q → (t : ℕ) → t < triangle_count triangles → Within 8 (Winding.solid_angle f (triangle_at triangles t) q)
  unfolding triangle_at
  each_angle q Q t l =
      let room = triangle_inside triangles t l in
      let c = T'.coordinates in
      solid_angle_within f _ q (point_within triangles c (9 * t) (omega arith)) (point_within triangles c (9 * t + 3) (omega arith))
      (point_within triangles c (9 * t + 6) (omega arith)) Q

  -- every winding number that the call writes is finite: no root and no arc tangent is taken where there is none
  pub winding_finite : (k : ℕ) → k < point_count points → T (finite (winding_at f triangles points k))
  unfolding winding_at winding_about
  winding_finite k l =
      let q = point_within points P'.coordinates (3 * k) (point_inside points k l) in
      (number_within f (triangle_at triangles) _ (triangle_count triangles) (omega (arith, T'.few)) (each_angle _ q)).is_finite
