-- The program's tests before a root or an arc tangent are the conditions of the definitions: no test is missing, none too many.
use mathlib.Core.Path.{◌≡◌, refl, sym, ◌∙◌}
use mathlib.Core.Bool.{true, false, not, ◌&&◌}
use Prim.Native.Nat.{ℕ, zero, suc}
use native.Mathlib.Nat.{mul-pos, zero-lt-suc}
use native.Mathlib.Omega.{arith}
use lib.IntN.{ℤ}
use lib.Dec.{T, not_T, eqb-suc-zero}
use lib.Ieee.{Float, nan, inf, fin, le, eq}
use lib.Ieee.Fits.{and_l, and_r, up_pos}
use lib.Ieee.Bits.{is_true, is_false}
use lib.Ieee.Scale.{finite}
use Rattle.spec_numbers.specs.Values.{zero as +0}
use Rattle.spec_numbers.proofs.Fraction.{compared}
use Rattle.spec_angles.specs.Root.{rootable}
use Rattle.spec_angles.specs.Angle.{Askable, askable}

-- a finite number that is not below zero
not_negative : (m : ℕ) (e : ℤ) → T (le +0 (fin true (suc m) e)) → ⊥
not_negative m e h = omega (arith, mul-pos (zero-lt-suc m) (up_pos e), (compared +0 (fin true (suc m) e) tt tt).le→at_most h)

-- finite and not below zero, as the program tests it, is exactly what has a root
pub rootable_is : (x : Float) → (finite x && le +0 x) ≡ rootable x
rootable_is nan = refl
rootable_is (inf s) = refl
rootable_is (fin false m e) = is_true (le +0 (fin false m e)) ((compared +0 (fin false m e) tt tt).at_most→le (omega arith))
rootable_is (fin true zero e) = is_true (le +0 (fin true zero e)) ((compared +0 (fin true zero e) tt tt).at_most→le (omega arith))
rootable_is (fin true (suc m) e) = is_false (le +0 (fin true (suc m) e)) (not_T (le +0 (fin true (suc m) e)) (not_negative m e)) ∙ sym (eqb-suc-zero m)

-- the tests passed give the facts that the laws of the arc tangent need
pub askable_is : (n d : Float) → T (askable n d) → Askable n d
askable_is n d t =
    let both = and_l (finite n && finite d) (not (eq n +0)) t in
    record {
      above = and_l (finite n) (finite d) both;
      under = and_r (finite n) (finite d) both;
      some = and_r (finite n && finite d) (not (eq n +0)) t;
    }
