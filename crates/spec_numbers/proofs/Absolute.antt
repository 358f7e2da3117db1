-- The magnitude of a number by one test, as code works it out: the opposite of what is below zero, and else the number plus zero.
use mathlib.Core.Path.{◌≡◌, refl, ap, sym}
use mathlib.Core.Bool.{true, false, not}
use Prim.Native.Nat.{zero as none, suc, ◌+◌, ◌*◌}
use native.Mathlib.Nat.{mul-pos, zero-lt-suc}
use native.Mathlib.Omega.{arith}
use lib.Dec.{T, T_not, ltb, ltb→lt, lt→ltb}
use lib.Ieee.{Float, nan, inf, fin, Format, up, down, lt, neg, fits}
use lib.Ieee.Fits.{up_pos}
use Rattle.spec_numbers.specs.Values.{abs, plus_zero, zero}
use Rattle.spec_numbers.proofs.Unique.{zero_exponent}

-- the branch below zero: the opposite of the number is its magnitude
pub below_zero_turns : (x : Float) → T (lt x zero) → neg x ≡ abs x
unfolding lt neg
below_zero_turns (inf true) h = refl
below_zero_turns (fin true m e) h = refl
below_zero_turns (fin false m e) h = absurd (omega (arith, ltb→lt))
below_zero_turns nan h = elim h [ ]
below_zero_turns (inf false) h = elim h [ ]

-- the other branch: adding zero gives the magnitude, as it turns -0 into +0 and keeps a NaN
pub otherwise_plus_zero : (f : Format) (x : Float) → T (fits f x) → T (not (lt x zero)) → plus_zero x ≡ abs x
unfolding lt
otherwise_plus_zero f nan h k = refl
otherwise_plus_zero f (inf false) h k = refl
otherwise_plus_zero f (fin false none e) h k = ap (fin false 0) (sym (zero_exponent f false e h))
otherwise_plus_zero f (fin true none e) h k = ap (fin false 0) (sym (zero_exponent f true e h))
otherwise_plus_zero f (fin false (suc m) e) h k = refl
otherwise_plus_zero f (fin true (suc m) e) h k =
    let a = suc m * up e * 1 in
    absurd (T_not (ltb 0 (a + 0 * down e)) k (lt→ltb 0 (a + 0 * down e) (omega (arith, mul-pos (zero-lt-suc m) (up_pos e)))))
otherwise_plus_zero f (inf true) h k = elim k [ ]
