-- Bounds that rounding keeps: where a whole number is a value of the format, what is at most that number in magnitude stays so when it is rounded.
-- So sums, differences and products of bounded numbers are bounded, and finite; and so is a quotient that is held to 0 and 1.
use mathlib.Core.Path.{◌≡◌, sym, ap, ◌∙◌}
use mathlib.Core.Bool.{Bool, true, false, not, ◌||◌, beq, cond, true≢false}
use mathlib.Core.Logic.{inl, inr}
use Prim.Native.Nat.{ℕ, zero as none, suc, ◌+◌, ◌*◌, ◌^◌, ◌≤◌, ◌<◌}
use native.Mathlib.Nat.{eq-zero-or-pos, le_trans, le_of_eq, lt_of_lt_of_le, mul-pos, mul_comm, mul-one, one-mul, mul-le-mul, mul-le-mul_right, le_of_mul-le-mul_right, mul-lt-mul_of_pos_right, mul-mul-mul_comm, mul_right_comm}
use native.Mathlib.Omega.{arith}
use lib.IntN.{ℤ}
use lib.Dec.{T, T_not, eqb, ltb, lit≤, eqb-suc-zero}
use lib.Pow.{pow_pos, pow-add, pow-lt, pow_mono}
use lib.Ieee.{Float, nan, inf, fin, Format, binary32, binary64, prec, emax, low, up, down, odd, units, round, neg, add, sub, mul, div, lt, le, eq}
use lib.Ieee.Fits.{and_i, eq→eqb, round_is, down_pos, reach}
use lib.Ieee.Exact.{HasValue, odd_sign, round_exact}
use lib.Ieee.Order.{round_mono}
use lib.Ieee.Positive.{num, den}
use lib.Ieee.Scale.{finite}
use Rattle.spec_numbers.specs.Values.{zero, one, Number, unsigned}
use Rattle.spec_numbers.specs.Hold.{held}
use Rattle.spec_numbers.proofs.Tests.{or_r}
use Rattle.spec_numbers.proofs.Fraction.{compared, spread}
use Rattle.spec_numbers.proofs.Order.{number_left, number_right, finite_between}
use Rattle.spec_numbers.proofs.Rounding.{round_negated, round_not_below, round_not_above}
use Rattle.spec_numbers.proofs.Sum.{add_rounds}
use Rattle.spec_numbers.proofs.Hold.{held_at_least, held_at_most}

-- ---- both formats
-- a significand has a digit at least: 1 is below its limit in both formats
pub two_digits : (f : Format) → 1 < 2 ^ prec f
two_digits binary32 = lit≤ tt
two_digits binary64 = lit≤ tt

-- both formats reach far enough that squares of bounded coordinates do not overflow
pub wide : (f : Format) → 45 ≤ emax f
wide binary32 = lit≤ tt
wide binary64 = lit≤ tt

-- ---- one number
-- a number that is not zero has a magnitude
pub some_magnitude : (x : Float) → T (finite x) → T (not (eq x zero)) → 0 < num x
unfolding eq
some_magnitude (fin s m e) k n = elim (eq-zero-or-pos (m * up e)) [
  | inl z ↦
      let a = m * up e * 1 in
      let b = 0 * down e in
      absurd
      (T_not (eq (fin s m e) zero) n
      (and_i (eqb a b) (beq s false || eqb a 0) (eq→eqb {a = a} {b = b} (omega arith))
      (or_r (beq s false) (eqb a 0) (eq→eqb {a = a} {b = 0} (omega arith)))))
  | inr p ↦ p
]
some_magnitude nan k n = elim k [ ]
some_magnitude (inf _) k n = elim k [ ]

-- a float with a value whose sign is clear is finite, with the sign clear
pub value_is_unsigned : (x : Float) (a c : ℕ) → HasValue x false a c → T (unsigned x)
value_is_unsigned (fin false m e) a c h = tt
value_is_unsigned (fin true m e) a c h = true≢false h.0
value_is_unsigned nan a c h = elim h [ ]
value_is_unsigned (inf _) a c h = elim h [ ]

-- ---- rounding with the sign clear
units_unsigned : (f : Format) (q k m : ℕ) (e : ℤ) → T (le (units f false q k) (fin false m e)) → T (unsigned (units f false q k))
unfolding units le
units_unsigned f q k m e = go (ltb (q * 2 ^ k) (2 ^ (low f + suc (emax f))))
  where
    go : (b : Bool) → T (le (cond b (odd (suc (prec f)) false q k (low f)) (inf false)) (fin false m e))
        → T (unsigned (cond b (odd (suc (prec f)) false q k (low f)) (inf false)))
    go true h = value_is_unsigned (odd (suc (prec f)) false q k (low f)) (q * 2 ^ k) (2 ^ low f) (odd_sign (suc (prec f)) false q k (low f))
    go false h = elim h [ ]

-- what is rounded with the sign clear, and stays below a finite number, is finite with the sign clear
pub round_unsigned : (f : Format) (a c m : ℕ) (e : ℤ) → T (le (round f false a c) (fin false m e)) → T (unsigned (round f false a c))
round_unsigned f a c m e h = rw (round_is f false a c) (units_unsigned f _ _ m e (rw (round_is f false a c) at h))

units_finite : (f : Format) (q k : ℕ) → T (finite (units f false q k)) → T (unsigned (units f false q k))
unfolding units
units_finite f q k = go (ltb (q * 2 ^ k) (2 ^ (low f + suc (emax f))))
  where
    go : (b : Bool) → T (finite (cond b (odd (suc (prec f)) false q k (low f)) (inf false)))
        → T (unsigned (cond b (odd (suc (prec f)) false q k (low f)) (inf false)))
    go true h = value_is_unsigned (odd (suc (prec f)) false q k (low f)) (q * 2 ^ k) (2 ^ low f) (odd_sign (suc (prec f)) false q k (low f))
    go false h = elim h [ ]

-- what is rounded with the sign clear, and is finite, keeps the sign clear
pub round_finite : (f : Format) (a c : ℕ) → T (finite (round f false a c)) → T (unsigned (round f false a c))
round_finite f a c h = rw (round_is f false a c) (units_finite f _ _ (rw (round_is f false a c) at h))

-- the float that compares as at most the other has no larger fraction
pub le_says : (x y : Float) → T (unsigned x) → T (unsigned y) → T (le x y) → num x * den y ≤ num y * den x
le_says (fin false m e) (fin false n d) p q h = omega (arith, (compared (fin false m e) (fin false n d) tt tt).le→at_most h)
le_says nan y p q h = elim p [ ]
le_says (inf _) y p q h = elim p [ ]
le_says (fin false m e) nan p q h = elim q [ ]
le_says (fin false m e) (inf _) p q h = elim q [ ]
le_says (fin false m e) (fin true n d) p q h = elim q [ ]
le_says (fin true m e) y p q h = elim p [ ]

-- ---- whole numbers that the format holds
pub record Whole (f : Format) (c : ℕ) : Type 0 where
  pub exact : HasValue (round f false c 1) false c 1

-- a whole number with no more digits than a significand is a value of the format
pub small_whole : (f : Format) (c : ℕ) → c < 2 ^ prec f → Whole f c
small_whole f c h = record {
  exact =
      round_exact f false c 1 c (low f) (pow_pos 0) h
      (rw (pow-add 2 (low f) (suc (emax f)), mul_comm (2 ^ low f) (2 ^ suc (emax f)))
      (mul-lt-mul_of_pos_right (lt_of_lt_of_le h (pow_mono (reach f))) (pow_pos (low f))))
      (sym (mul-one (c * 2 ^ low f)));
}

-- a power of two in the format's range is a value of it
pub power_whole : (f : Format) (k : ℕ) → k ≤ emax f → Whole f (2 ^ k)
power_whole f k h = record {
  exact =
      round_exact f false (2 ^ k) 1 1 (k + low f) (pow_pos 0) (two_digits f)
      (rw (one-mul (2 ^ (k + low f))) (pow-lt (omega arith)))
      (rw (pow-add 2 k (low f)) (omega arith));
}

-- ---- x is finite, and at most c in magnitude
pub record Within (c : ℕ) (x : Float) : Type 0 where
  pub is_finite : T (finite x)
  pub most : num x ≤ c * den x

-- a bound may be widened
pub within_more : {b c : ℕ} (x : Float) → b ≤ c → Within b x → Within c x
within_more x h w = record { is_finite = w.is_finite; most = le_trans w.most (mul-le-mul_right (den x) h) }

neg_within : {c : ℕ} (x : Float) → Within c x → Within c (neg x)
unfolding neg
neg_within nan w = absurd w.is_finite
neg_within (inf s) w = absurd w.is_finite
neg_within (fin s m e) w = record { is_finite = tt; most = w.most }

-- a number with the sign clear is finite, as the definition has it
pub unsigned_finite : (x : Float) → T (unsigned x) → T (finite x)
unsigned_finite (fin false m e) h = tt
unsigned_finite nan h = elim h [ ]
unsigned_finite (inf _) h = elim h [ ]
unsigned_finite (fin true m e) h = elim h [ ]

-- R is c itself
below_whole : (f : Format) (a d c : ℕ) (R : Float) → HasValue R false c 1 → T (le (round f false a d) R) → Within c (round f false a d)
below_whole f a d c (fin true n g) v l = absurd (true≢false v.0)
below_whole f a d c (fin false n g) v l =
    let r = round f false a d in
    let p = round_unsigned f a d n g l in
    let k : num r * down g ≤ n * up g * den r = le_says r (fin false n g) p tt l in
    let e : n * up g ≡ c * down g = omega (arith, v.1) in
    record {
      is_finite = unsigned_finite r p;
      most = le_of_mul-le-mul_right (le_trans k (le_of_eq (ap (λ (z : ℕ). z * den r) e ∙ mul_right_comm c (down g) (den r)))) (down_pos g);
    }
below_whole f a d c nan v l = elim v [ ]
below_whole f a d c (inf _) v l = elim v [ ]

round_within_plain : (f : Format) (a d c : ℕ) → 0 < d → Whole f c → a ≤ c * d → Within c (round f false a d)
round_within_plain f a d c D w h = below_whole f a d c (round f false c 1) w.exact (round_mono f a d c 1 D (pow_pos 0) (omega arith))

-- rounding does not pass a whole number that the format holds, so it keeps the bound
pub round_within : (f : Format) (s : Bool) (a d c : ℕ) → 0 < d → Whole f c → a ≤ c * d → Within c (round f s a d)
round_within f false a d c D w h = round_within_plain f a d c D w h
round_within f true a d c D w h = rw (round_negated f a d) (neg_within (round f false a d) (round_within_plain f a d c D w h))

-- ---- the operations
-- the size of a signed sum
size_most : (s t g : Bool) (a b z : ℕ) → cond s 0 a + cond t 0 b + cond g z 0 ≡ cond s a 0 + cond t b 0 + cond g 0 z → z ≤ a + b
size_most false false false a b z h = omega arith
size_most false false true a b z h = omega arith
size_most false true false a b z h = omega arith
size_most false true true a b z h = omega arith
size_most true false false a b z h = omega arith
size_most true false true a b z h = omega arith
size_most true true false a b z h = omega arith
size_most true true true a b z h = omega arith

module _ (f : Format) (b c : ℕ) where
  -- a sum is bounded by the sum of the bounds
  pub add_within : (x y : Float) → Whole f (b + c) → Within b x → Within c y → Within (b + c) (add f x y)
  add_within nan y w X Y = absurd X.is_finite
  add_within (inf s) y w X Y = absurd X.is_finite
  add_within (fin s m e) nan w X Y = absurd Y.is_finite
  add_within (fin s m e) (inf t) w X Y = absurd Y.is_finite
  add_within (fin s m e) (fin t n d) w X Y =
      let r = add_rounds f (fin s m e) (fin t n d) tt tt in
      let p = spread s (m * up e) (down d) in
      let q = spread t (n * up d) (down e) in
      let z : r.size ≤ m * up e * down d + n * up d * down e =
      size_most s t r.sign (m * up e * down d) (n * up d * down e) r.size (omega (arith, r.says)) in
      rw r.is
      (round_within f r.sign r.size (down e * down d) (b + c) (mul-pos (down_pos e) (down_pos d)) w
      (omega (arith, mul-le-mul_right (down d) X.most, mul-le-mul_right (down e) Y.most)))

  -- a difference is bounded by the sum of the bounds
  pub sub_within : (x y : Float) → Whole f (b + c) → Within b x → Within c y → Within (b + c) (sub f x y)
  unfolding sub
  sub_within x y w X Y = add_within x (neg y) w X (neg_within y Y)

  -- a product is bounded by the product of the bounds
  pub mul_within : (x y : Float) → Whole f (b * c) → Within b x → Within c y → Within (b * c) (mul f x y)
  unfolding mul
  mul_within nan y w X Y = absurd X.is_finite
  mul_within (inf s) y w X Y = absurd X.is_finite
  mul_within (fin s m e) nan w X Y = absurd Y.is_finite
  mul_within (fin s m e) (inf t) w X Y = absurd Y.is_finite
  mul_within (fin s m e) (fin t n d) w X Y =
      round_within f _ _ (down e * down d) (b * c) (mul-pos (down_pos e) (down_pos d)) w
      (le_trans (mul-le-mul X.most Y.most) (le_of_eq (mul-mul-mul_comm b (down e) c (down d))))

-- ---- a quotient, held to 0 and 1
rounded_number : (f : Format) (s : Bool) (a c : ℕ) → 0 < c → Number (round f s a c)
rounded_number f false a c h = number_right zero (round f false a c) (round_not_below f a c h)
rounded_number f true a c h = number_left (round f true a c) zero (round_not_above f a c h)

-- a quotient of finite numbers is a number where the divisor is not zero; it may be infinite
quotient_number : (f : Format) (x y : Float) → T (finite x) → T (finite y) → 0 < num y → Number (div f x y)
unfolding div
quotient_number f (fin s m e) (fin t none d) X Y h = absurd (omega arith)
quotient_number f (fin s m e) (fin t (suc n) d) X Y h =
    rw (eqb-suc-zero n) (rounded_number f _ (m * up e * down d) (suc n * up d * down e) (mul-pos h (down_pos e)))
quotient_number f nan y X Y h = elim X [ ]
quotient_number f (inf _) y X Y h = elim X [ ]
quotient_number f (fin s m e) nan X Y h = elim Y [ ]
quotient_number f (fin s m e) (inf _) X Y h = elim Y [ ]

zero_at_most_one : T (le zero one)
unfolding le lt eq
zero_at_most_one = tt

from_zero_to_one : (x : Float) → T (finite x) → T (le zero x) → T (le x one) → num x ≤ 1 * den x
from_zero_to_one (fin false m e) F l h = omega (arith, (compared (fin false m e) one tt tt).le→at_most h)
from_zero_to_one (fin true m e) F l h = omega (arith, (compared zero (fin true m e) tt tt).le→at_most l)
from_zero_to_one nan F l h = elim F [ ]
from_zero_to_one (inf _) F l h = elim F [ ]

-- so held to 0 and 1 it is at most 1, however small the divisor is
pub share_within : (f : Format) (x y : Float) → T (finite x) → T (finite y) → T (not (eq y zero)) → Within 1 (held zero one (div f x y))
share_within f x y X Y n =
    let s = held zero one (div f x y) in
    let q = quotient_number f x y X Y (some_magnitude y Y n) in
    let low = held_at_least zero one (div f x y) zero_at_most_one q in
    let high = held_at_most zero one (div f x y) zero_at_most_one q in
    let F = finite_between zero s one tt tt low high in
    record { is_finite = F; most = from_zero_to_one s F low high }
