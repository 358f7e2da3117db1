-- A zero or a NaN stays one when it is divided, or multiplied by a finite number, and its whole part is 0.
-- So a centre at the lower end of the bounds has a nought for its offset, and falls into bucket 0.
use mathlib.Core.Path.{◌≡◌, refl, sym, ◌∙◌}
use mathlib.Core.Bool.{Bool, true, false, cond}
use Prim.Native.Nat.{ℕ, zero, suc, ◌*◌, ◌-◌, ◌^◌, ◌<◌}
use native.Mathlib.Nat.{zero-mul, mul-zero, zero-div, zero-min, mul-pos, zero-lt-suc}
use native.Mathlib.Omega.{arith}
use lib.Dec.{T, eqb}
use lib.Pow.{pow_pos}
use lib.IntN.{ℤ}
use lib.Ieee.{Float, nan, inf, fin, Format, unlike, up, down, round, neg, add, sub, mul, div, le, to_unsigned}
use lib.Ieee.Fits.{down_pos, up_pos}
use lib.Ieee.Scale.{round_same}
use Rattle.spec_numbers.specs.Values as Values
use Rattle.spec_numbers.proofs.Fraction.{compared}
use Rattle.spec_numbers.proofs.Rounding.{round_zero, round_negated}
use Rattle.spec_numbers.proofs.Difference.{difference_with_itself}

-- a zero, of either sign, or a NaN
abbrev pub Nought : Float → Type 0
Nought nan = Unit {0}
Nought (inf s) = ⊥
Nought (fin s m e) = m ≡ 0

-- ---- by the order
-- what both comparisons with zero admit is a zero, of either sign
pub nought_by_order : (x : Float) → T (le Values.zero x) → T (le x Values.zero) → Nought x
unfolding le
nought_by_order (inf false) h k = k
nought_by_order (inf true) h k = h
nought_by_order (fin false zero e) h k = refl
nought_by_order (fin false (suc m) e) h k =
    absurd (omega (arith, (compared (fin false (suc m) e) Values.zero tt tt).le→at_most k, mul-pos (zero-lt-suc m) (up_pos e)))
nought_by_order (fin true zero e) h k = refl
nought_by_order (fin true (suc m) e) h k =
    absurd (omega (arith, (compared Values.zero (fin true (suc m) e) tt tt).le→at_most h, mul-pos (zero-lt-suc m) (up_pos e)))
nought_by_order nan h k = elim h [ ]

-- ---- a number's difference with itself
-- it is a zero where the number is finite, and else a NaN
pub difference_nought : (f : Format) (x : Float) → Nought (sub f x x)
unfolding sub add neg
difference_nought f nan = tt
difference_nought f (inf true) = tt
difference_nought f (inf false) = tt
difference_nought f (fin s m e) = rw (difference_with_itself f (fin s m e) tt) refl

-- ---- a quotient and a product
round_nought : (f : Format) (s : Bool) (c : ℕ) → 0 < c → Nought (round f s 0 c)
unfolding neg
round_nought f s c C = by_sign s
  where
    none : round f false 0 c ≡ Values.zero
    none = round_same f false 0 c 0 1 C (pow_pos 0) (zero-mul 1 ∙ sym (zero-mul c)) ∙ round_zero f

    by_sign : (t : Bool) → Nought (round f t 0 c)
    by_sign false = rw none refl
    by_sign true = rw (round_negated f 0 c, none) refl

-- of two noughts a test picks a nought
pub either : (b : Bool) (x y : Float) → Nought x → Nought y → Nought (cond b x y)
either true x y h k = h
either false x y h k = k

-- a nought divided by anything is a nought
pub over_nought : (f : Format) (x y : Float) → Nought x → Nought (div f x y)
unfolding div
over_nought f nan y h = tt
over_nought f (fin s zero e) nan h = tt
over_nought f (fin s zero e) (inf t) h = refl
over_nought f (fin s zero e) (fin t zero d) h = tt
over_nought f (fin s zero e) (fin t (suc n) d) h =
    either (eqb (suc n) 0) nan (round f (unlike s t) (0 * up e * down d) (suc n * up d * down e)) tt
    (rw (zero-mul (up e), zero-mul (down d)) (round_nought f (unlike s t) (suc n * up d * down e) (mul-pos (mul-pos (zero-lt-suc n) (up_pos d)) (down_pos e))))
over_nought f (fin s (suc m) e) y h = absurd (omega arith)
over_nought f (inf _) y h = elim h [ ]

-- a nought times a finite number is a nought
pub times_nought : (f : Format) (s : Bool) (a : ℕ) (b : ℤ) (y : Float) → Nought y → Nought (mul f (fin s a b) y)
unfolding mul
times_nought f s a b nan h = tt
times_nought f s a b (fin t zero d) h = rw (zero-mul (up d), mul-zero (a * up b)) (round_nought f _ _ (mul-pos (down_pos b) (down_pos d)))
times_nought f s a b (fin t (suc n) d) h = absurd (omega arith)
times_nought f s a b (inf _) h = elim h [ ]

-- ---- its whole part
-- so a nought falls into bucket 0
pub cut_nought : (x : Float) → Nought x → Values.cut x ≡ 0
unfolding to_unsigned
cut_nought nan h = refl
cut_nought (fin true m e) h = refl
cut_nought (fin false zero e) h = rw (zero-mul (up e), zero-div (down e)) (zero-min (2 ^ 64 - 1))
cut_nought (fin false (suc m) e) h = absurd (omega arith)
cut_nought (inf _) h = elim h [ ]
