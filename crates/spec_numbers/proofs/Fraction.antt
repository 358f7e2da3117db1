-- A finite float as a signed fraction, (over - under) / den, where one of the first two is 0 by the sign.
-- The order of floats is the order of these fractions: linear inequalities that `omega` reads, with no cases by sign.
use mathlib.Core.Bool.{Bool, true, false, ◌||◌, cond}
use Prim.Native.Nat.{ℕ, ◌+◌, ◌*◌, ◌≤◌, ◌<◌}
use native.Mathlib.Nat.{le_of_lt, mul-le-mul_right, le_of_mul-le-mul_right, eq-or-lt_of_le, zero-mul}
use native.Mathlib.Decide.{dec_lt}
use native.Mathlib.Omega.{arith}
use mathlib.Core.Path.{◌≡◌, refl}
use mathlib.Core.Logic.{◌⊎◌, inl, inr}
use lib.Dec.{T, eqb, eqb→eq, ltb→lt, lt→ltb}
use lib.Pow.{pow_pos}
use lib.Ieee.{Float, nan, inf, fin, up, down, below, level, lt, le}
use lib.Ieee.Scale.{finite}
use lib.Ieee.Fits.{down_pos, and_i, and_l, and_r, eq→eqb}
use Rattle.spec_numbers.proofs.Tests.{or_elim, or_l, or_r}

pub record Fraction : Type 0 where
  pub over : ℕ
  pub under : ℕ
  pub den : ℕ

-- ±a / c
abbrev pub signed : Bool → ℕ → ℕ → Fraction
signed s a c = record { over = cond s 0 a; under = cond s a 0; den = c }

-- 0 / 1 for a NaN and an infinity
abbrev pub value : Float → Fraction
value nan = signed false 0 1
value (inf s) = signed false 0 1
value (fin s m e) = signed s (m * up e) (down e)

-- the order of fractions, multiplied out, so that nothing is subtracted
abbrev pub AtMost : Fraction → Fraction → Type 0
AtMost a b = a.over * b.den + b.under * a.den ≤ b.over * a.den + a.under * b.den

abbrev pub Less : Fraction → Fraction → Type 0
Less a b = a.over * b.den + b.under * a.den < b.over * a.den + a.under * b.den

-- comparisons of fractions chain, where the denominator in the middle is not zero
pub at_most_transitive : (a b c : Fraction) → 0 < b.den → AtMost a b → AtMost b c → AtMost a c
at_most_transitive a b c B h k = le_of_mul-le-mul_right (omega (arith, mul-le-mul_right c.den h, mul-le-mul_right a.den k)) B

-- fractions always compare, one way or the other: so the order of floats is total
pub less_or_at_most : (a b : Fraction) → Less a b ⊎ AtMost b a
less_or_at_most a b = go (dec_lt _ _)
  where
    go : Dec (Less a b) → Less a b ⊎ AtMost b a
    go (yes l) = inl l
    go (no n) = inr (omega arith)

-- ---- what the tests say
-- ±a < ±b, by the test `below`; and ±a ≤ ±b, by `below` and `level` as `le` joins them
below_says : (s : Bool) (a : ℕ) (t : Bool) (b : ℕ) → T (below s a t b) → cond s 0 a + cond t b 0 < cond t 0 b + cond s a 0
below_says false a false b h = omega (arith, ltb→lt)
below_says true a false b h = omega (arith, ltb→lt)
below_says true a true b h = omega (arith, ltb→lt)
below_says false a true b h = elim h [ ]

below_holds : (s : Bool) (a : ℕ) (t : Bool) (b : ℕ) → cond s 0 a + cond t b 0 < cond t 0 b + cond s a 0 → T (below s a t b)
below_holds false a false b h = omega (arith, lt→ltb)
below_holds false a true b h = omega arith
below_holds true a false b h = omega (arith, lt→ltb)
below_holds true a true b h = omega (arith, lt→ltb)

joined_says : (s : Bool) (a : ℕ) (t : Bool) (b : ℕ) → T (below s a t b || level s a t b) → cond s 0 a + cond t b 0 ≤ cond t 0 b + cond s a 0
joined_says s a t b = or_elim (below s a t b) (level s a t b) (λ h. le_of_lt (below_says s a t b h)) (same s t)
  where
    same : (s t : Bool) → T (level s a t b) → cond s 0 a + cond t b 0 ≤ cond t 0 b + cond s a 0
    same false false h = omega (arith, eqb→eq a b (and_l (eqb a b) true h))
    same false true h = omega (arith, eqb→eq a b (and_l (eqb a b) (eqb a 0) h), eqb→eq a 0 (and_r (eqb a b) (eqb a 0) h))
    same true false h = omega arith
    same true true h = omega (arith, eqb→eq a b (and_l (eqb a b) true h))

joined_holds : (s : Bool) (a : ℕ) (t : Bool) (b : ℕ) → cond s 0 a + cond t b 0 ≤ cond t 0 b + cond s a 0 → T (below s a t b || level s a t b)
joined_holds s a t b h = elim (eq-or-lt_of_le h) [
  | inl e ↦ or_r (below s a t b) (level s a t b) (same s t e)
  | inr l ↦ or_l (below s a t b) (level s a t b) (below_holds s a t b l)
]
  where
    same : (s t : Bool) → cond s 0 a + cond t b 0 ≡ cond t 0 b + cond s a 0 → T (level s a t b)
    same false false e = and_i (eqb a b) true (eq→eqb {a = a} {b = b} (omega arith)) tt
    same false true e = and_i (eqb a b) (eqb a 0) (eq→eqb {a = a} {b = b} (omega arith)) (eq→eqb {a = a} {b = 0} (omega arith))
    same true false e = and_i (eqb a b) (eqb a 0) (eq→eqb {a = a} {b = b} (omega arith)) (eq→eqb {a = a} {b = 0} (omega arith))
    same true true e = and_i (eqb a b) true (eq→eqb {a = a} {b = b} (omega arith)) tt

-- a numerator brought to another denominator keeps its sign: so two fractions are compared over one denominator
pub spread : (s : Bool) (a d : ℕ) → (cond s 0 a * d ≡ cond s 0 (a * d)) × (cond s a 0 * d ≡ cond s (a * d) 0)
spread false a d = (refl, zero-mul d)
spread true a d = (zero-mul d, refl)

-- ---- the order of finite floats is that of their fractions
pub record Compared (x y : Float) : Type 0 where
  pub lt→less : T (lt x y) → Less (value x) (value y)
  pub less→lt : Less (value x) (value y) → T (lt x y)
  pub le→at_most : T (le x y) → AtMost (value x) (value y)
  pub at_most→le : AtMost (value x) (value y) → T (le x y)

-- the order of finite floats as an inequality of whole numbers, both ways: other laws of the order are proved through it
pub compared : (x y : Float) → T (finite x) → T (finite y) → Compared x y
unfolding lt le
compared (fin s m e) (fin t n d) h k =
    let a = m * up e * down d in
    let b = n * up d * down e in
    let p = spread s (m * up e) (down d) in
    let q = spread t (n * up d) (down e) in
    record {
      lt→less = λ l. omega (arith, below_says s a t b l);
      less→lt = λ l. below_holds s a t b (omega arith);
      le→at_most = λ l. omega (arith, joined_says s a t b l);
      at_most→le = λ l. joined_holds s a t b (omega arith);
    }
compared nan y h k = elim h [ ]
compared (inf _) y h k = elim h [ ]
compared (fin s m e) nan h k = elim k [ ]
compared (fin s m e) (inf _) h k = elim k [ ]

-- no denominator is zero, so the laws of fractions apply to every float
pub den_above_zero : (x : Float) → 0 < (value x).den
den_above_zero nan = pow_pos 0
den_above_zero (inf s) = pow_pos 0
den_above_zero (fin s m e) = down_pos e
