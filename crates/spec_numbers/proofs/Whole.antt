-- The cut to a whole number by two tests, as code makes it: from 2 ^ w on it is the largest, 2 ^ w - 1; where x is not at least zero
-- it is 0; and between the two x is in the range of a plain cast.
use mathlib.Core.Path.{◌≡◌, refl}
use mathlib.Core.Logic.{inl, inr}
use mathlib.Core.Bool.{true, false, not}
use Prim.Native.Nat.{ℕ, ◌*◌, ◌/◌, ◌-◌, ◌^◌, ◌≤◌}
use native.Mathlib.Nat.{min-eq_right, mul-pos, le-div_iff_mul-le}
use native.Mathlib.Omega.{arith}
use lib.IntN.{pos}
use lib.Dec.{T, T_not}
use lib.Pow.{pow_pos}
use lib.Ieee.{Float, nan, inf, fin, up, down, le, lt, to_unsigned}
use lib.Ieee.Fits.{down_pos}
use Rattle.spec_numbers.specs.Values.{zero}
use Rattle.spec_numbers.proofs.Fraction.{compared}
use Rattle.spec_numbers.proofs.Order.{lt_or_le, lt_le_transitive, number_right, finite_number}

-- 2 ^ w
abbrev pub power : ℕ → Float
power w = fin false 1 (pos w)

-- the first test: what is too large is cut to the largest whole number
pub cut_too_large : (w : ℕ) (x : Float) → T (le (power w) x) → to_unsigned w x ≡ 2 ^ w - 1
unfolding to_unsigned le
cut_too_large w (inf false) h = refl
cut_too_large w (fin true m e) h = absurd (omega (arith, (compared (power w) (fin true m e) tt tt).le→at_most h, mul-pos (pow_pos w) (down_pos e)))
cut_too_large w (fin false m e) h =
    let q : 2 ^ w ≤ m * up e / down e = (le-div_iff_mul-le (down_pos e)).1 (omega (arith, (compared (power w) (fin false m e) tt tt).le→at_most h)) in
    min-eq_right (omega arith)
cut_too_large w nan h = elim h [ ]
cut_too_large w (inf true) h = elim h [ ]

-- the second test: what is below zero, and a NaN, is cut to 0
pub cut_below_zero : (w : ℕ) (x : Float) → T (not (le zero x)) → to_unsigned w x ≡ 0
unfolding to_unsigned le
cut_below_zero w nan h = refl
cut_below_zero w (inf true) h = refl
cut_below_zero w (fin true m e) h = refl
cut_below_zero w (fin false m e) h = absurd (T_not (le zero (fin false m e)) h ((compared zero (fin false m e) tt tt).at_most→le (omega arith)))
cut_below_zero w (inf false) h = elim h [ ]

-- what a plain cast needs below: a number that is not below zero is above -1
pub above_minus_one : (x : Float) → T (le zero x) → T (lt (fin true 1 (pos 0)) x)
above_minus_one x h = lt_le_transitive (fin true 1 (pos 0)) zero x (unfold lt in tt) h

-- what a plain cast needs above: a number that failed the first test is below the limit
pub below_power : (w : ℕ) (x : Float) → T (le zero x) → T (not (le (power w) x)) → T (lt x (power w))
below_power w x h k = elim (lt_or_le x (power w) (number_right _ _ h) (finite_number (power w) tt)) [ inl l ↦ l | inr l ↦ absurd (T_not (le (power w) x) k l) ]
