-- A number from 0 to 1 times 2 ^ 30, in floats, is exact, and cut to a whole number it is `in_units`, at most 2 ^ 30: so the program reads the table
-- at the entry that the definition means.
use mathlib.Core.Path.{◌≡◌, refl, sym, ap}
use mathlib.Core.Bool.{true, false, true≢false}
use Prim.Native.Nat.{ℕ, suc, ◌+◌, ◌*◌, ◌/◌, ◌^◌, ◌≤◌, ◌<◌}
use native.Mathlib.Nat.{le_trans, le_of_eq, le_of_suc-le-suc, lt_of_le_of_lt, mul_comm, mul_assoc, mul-one, mul-le-mul_right, le_of_mul-le-mul_right, min-eq_left, div-lt_iff_lt-mul}
use native.Mathlib.Omega.{arith}
use lib.IntN.{ℤ}
use lib.Dec.{T, lit≤}
use lib.Pow.{pow-add, pow-lt}
use lib.Ieee.{Float, fin, Format, binary32, binary64, emax, low, up, down, round, mul, fits, to_unsigned, inf, nan}
use lib.Ieee.Fits.{down_pos}
use lib.Ieee.Exact.{HasValue, round_exact}
use lib.Ieee.Nearest.{div_same}
use lib.Ieee.Positive.{num, den, den_pos}
use Rattle.spec_numbers.specs.Values.{cut, unsigned}
use Rattle.spec_numbers.proofs.Whole.{power}
use Rattle.spec_angles.specs.Angle.{AtMostOne, in_units}
use Rattle.spec_angles.proofs.RootLaw.{Units, units_of}

-- ---- the product
mul_is : (f : Format) (m : ℕ) (e : ℤ) → mul f (fin false m e) (power 30) ≡ round f false (m * up e * 2 ^ 30) (down e)
unfolding mul
mul_is f m e = rw mul-one refl

shifted : (x l s d w c : ℕ) → x * l ≡ d * w * c → x * s * l ≡ d * (w * s) * c
shifted x l s d w c h = omega (arith, ap (λ (z : ℕ). z * s) h)

high : (f : Format) → 30 < suc (emax f)
high binary32 = lit≤ tt
high binary64 = lit≤ tt

module _ (f : Format) (m : ℕ) (e : ℤ) (u : Units f (fin false m e)) (few : m * up e ≤ down e) where
  -- in units of the least value a number up to 1 is 2 ^ low at most
  units_few : u.digits * 2 ^ u.places ≤ 2 ^ low f
  units_few =
      le_of_mul-le-mul_right
      (le_trans (le_of_eq (sym u.is)) (le_trans (mul-le-mul_right (2 ^ low f) few) (le_of_eq (mul_comm (down e) (2 ^ low f))))) (down_pos e)

  exact : HasValue (round f false (m * up e * 2 ^ 30) (down e)) false (m * up e * 2 ^ 30) (down e)
  exact =
      let w = 2 ^ u.places in
      round_exact f false (m * up e * 2 ^ 30) (down e) u.digits (u.places + 30) (down_pos e) u.few
      (rw (pow-add 2 u.places 30, ← mul_assoc u.digits w (2 ^ 30))
      (lt_of_le_of_lt (mul-le-mul_right (2 ^ 30) units_few) (rw (← pow-add 2 (low f) 30) (pow-lt (omega (arith, high f))))))
      (rw (pow-add 2 u.places 30) (shifted (m * up e) (2 ^ low f) (2 ^ 30) u.digits w (down e) u.is))

product : (f : Format) (t : Float) → T (fits f t) → T (unsigned t) → num t ≤ den t → HasValue (mul f t (power 30)) false (num t * 2 ^ 30) (den t)
product f (fin false m e) h p few = rw (mul_is f m e) (exact f m e (units_of f (fin false m e) h p) few)
product f nan h p few = elim p [ ]
product f (inf _) h p few = elim p [ ]
product f (fin true m e) h p few = elim p [ ]

-- ---- the cut
quotient_few : (a c : ℕ) → 0 < c → a ≤ 2 ^ 30 * c → a / c ≤ 2 ^ 30
quotient_few a c C few = le_of_suc-le-suc ((div-lt_iff_lt-mul C).1 (omega (arith, few)))

-- a float that has the value a / c, up to 2 ^ 30
cut_value : (a c : ℕ) → 0 < c → a ≤ 2 ^ 30 * c → (x : Float) → HasValue x false a c → cut x ≡ a / c
unfolding to_unsigned
cut_value a c C few (fin true m e) v = absurd (true≢false v.0)
cut_value a c C few (fin false m e) v = rw (div_same (m * up e) (down e) a c (down_pos e) C v.1) (min-eq_left (le_trans (quotient_few a c C few) (lit≤ tt)))
cut_value a c C few nan v = elim v [ ]
cut_value a c C few (inf _) v = elim v [ ]

module _ (f : Format) (t : Float) (o : AtMostOne f t) where
  few : num t * 2 ^ 30 ≤ 2 ^ 30 * den t
  few = omega (arith, o.most)

  -- the program's product and cut give the units as defined: nothing is rounded on the way
  pub cut_is_in_units : cut (mul f t (power 30)) ≡ in_units t
  cut_is_in_units = cut_value (num t * 2 ^ 30) (den t) (den_pos t) few (mul f t (power 30)) (product f t o.holds o.is_unsigned o.most)

  -- a number up to 1 has at most 2 ^ 30 units, so its entry is in the table
  pub in_units_few : in_units t ≤ 2 ^ 30
  in_units_few = quotient_few (num t * 2 ^ 30) (den t) (den_pos t) few
