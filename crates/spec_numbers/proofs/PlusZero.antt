-- A number plus zero is finite where the number is, equal to it in value, and never -0: coordinates are read so, and held points end so.
use mathlib.Core.Path.{◌≡◌, refl}
use mathlib.Core.Bool.{beq, true, false, ◌||◌}
use Prim.Native.Nat.{zero as none, suc, ◌*◌}
use native.Mathlib.Nat.{mul-pos, zero-lt-suc}
use native.Mathlib.Omega.{arith}
use lib.Dec.{T, eqb, eqb→eq}
use lib.Ieee.{Float, fin, up, down, eq, le, inf, nan}
use lib.Ieee.Fits.{and_l, up_pos}
use lib.Ieee.Scale.{finite}
use Rattle.spec_numbers.specs.Values.{zero, plus_zero}
use Rattle.spec_numbers.proofs.Fraction.{compared}
use Rattle.spec_numbers.proofs.Order.{reflexive, finite_number}

-- a finite number plus zero is finite
pub plus_zero_finite : (x : Float) → T (finite x) → T (finite (plus_zero x))
plus_zero_finite (fin s none e) h = tt
plus_zero_finite (fin s (suc m) e) h = tt
plus_zero_finite nan h = elim h [ ]
plus_zero_finite (inf _) h = elim h [ ]

-- a number plus zero is not below the number: so a point stays in its box
pub plus_zero_not_below : (x : Float) → T (finite x) → T (le x (plus_zero x))
plus_zero_not_below (fin true none e) h = (compared (fin true 0 e) zero tt tt).at_most→le (omega arith)
plus_zero_not_below (fin false none e) h = (compared (fin false 0 e) zero tt tt).at_most→le (omega arith)
plus_zero_not_below (fin s (suc m) e) h = reflexive (fin s (suc m) e) (finite_number (fin s (suc m) e) tt)
plus_zero_not_below nan h = elim h [ ]
plus_zero_not_below (inf _) h = elim h [ ]

-- a number plus zero is not above the number: so a point stays in its box
pub plus_zero_not_above : (x : Float) → T (finite x) → T (le (plus_zero x) x)
plus_zero_not_above (fin true none e) h = (compared zero (fin true 0 e) tt tt).at_most→le (omega arith)
plus_zero_not_above (fin false none e) h = (compared zero (fin false 0 e) tt tt).at_most→le (omega arith)
plus_zero_not_above (fin s (suc m) e) h = reflexive (fin s (suc m) e) (finite_number (fin s (suc m) e) tt)
plus_zero_not_above nan h = elim h [ ]
plus_zero_not_above (inf _) h = elim h [ ]

-- a number plus zero is +0 where it is equal to zero: no -0 remains
pub plus_zero_no_minus_zero : (x : Float) → T (eq (plus_zero x) zero) → plus_zero x ≡ zero
unfolding eq
plus_zero_no_minus_zero (fin s none e) h = refl
plus_zero_no_minus_zero (fin s (suc m) e) h =
    let a = suc m * up e * 1 in
    let same : a ≡ 0 * down e = eqb→eq a (0 * down e) (and_l (eqb a (0 * down e)) (beq s false || eqb a 0) h) in
    absurd (omega (arith, mul-pos (zero-lt-suc m) (up_pos e)))
plus_zero_no_minus_zero nan h = elim h [ ]
plus_zero_no_minus_zero (inf _) h = elim h [ ]
