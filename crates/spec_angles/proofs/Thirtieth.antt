-- A whole number below 2 ^ 32 rounded to a format and then multiplied by 2 ^ -30 is that number over 2 ^ 30, rounded once: the product is exact,
-- since a / 2 ^ 30 is far above the format's least value.
use mathlib.Core.Path.{◌≡◌, refl, sym, ap, ◌∙◌}
use mathlib.Core.Bool.{true, false, true≢false}
use Prim.Native.Nat.{ℕ, zero, suc, ◌-◌, ◌*◌, ◌^◌, ◌≤◌, ◌<◌}
use native.Mathlib.Nat.{mul-one, mul-pos, zero-lt-suc, mul-le-mul_right, le_trans}
use native.Mathlib.Omega.{arith}
use lib.IntN.{negsuc}
use lib.Dec.{T, lit≤}
use lib.Pow.{pow_pos}
use lib.Ieee.{Float, fin, Format, binary32, binary64, prec, low, up, down, round, mul, neg, fits, inf, nan}
use lib.Ieee.Fits.{round-fits, down_pos}
use lib.Ieee.Exact.{HasValue}
use lib.Ieee.Order.{round_mono}
use lib.Ieee.Scale.{round_same, round_val, round_under, grid, grid_scale, normal_of_fraction}
use lib.Ieee.Positive.{positive, positive-finite, between, value_pos, mul_at}
use Rattle.spec_numbers.specs.Values.{one}
use Rattle.spec_numbers.proofs.Whole.{power}
use Rattle.spec_numbers.proofs.Exact.{rounds_to_itself}
use Rattle.spec_numbers.proofs.Rounding.{round_negated}

-- 2 ^ -30, the unit of an angle
abbrev pub thirtieth : Float
thirtieth = fin false 1 (negsuc 29)

regroup : (w s l : ℕ) → w * s * 1 * l ≡ w * (l * s)
regroup w s l = omega arith

-- ---- a float that fits rounds to itself, by any fraction that it equals
again : (f : Format) (y : Float) (a c : ℕ) → 0 < c → 0 < a → T (fits f y) → HasValue y false a c → round f false a c ≡ y
again f (fin true m e) a c C A h v = absurd (true≢false v.0)
again f (fin false zero e) a c C A h v = absurd (omega (arith, mul-pos A (down_pos e), v.1))
again f (fin false (suc m) e) a c C A h v = round_same f false a c (suc m * up e) (down e) C (down_pos e) (sym v.1) ∙ rounds_to_itself f false m e h
again f nan a c C A h v = elim v [ ]
again f (inf _) a c C A h v = elim v [ ]

-- ---- closed facts of each format
record Known (f : Format) : Type 0 where
  least : round f false 1 (2 ^ 30) ≡ thirtieth
  unit : round f false 1 1 ≡ one
  four : round f false 4 1 ≡ power 2
  limit : round f false (2 ^ 32) 1 ≡ power 32
  none : mul f (round f false 0 1) thirtieth ≡ round f false 0 (2 ^ 30)
  normal : 2 ^ (prec f - 1) * 2 ^ 30 ≤ 1 * 2 ^ low f

known : (f : Format) → Known f
unfolding round mul
known binary32 = record { least = refl; unit = refl; four = refl; limit = refl; none = refl; normal = lit≤ tt }
known binary64 = record { least = refl; unit = refl; four = refl; limit = refl; none = refl; normal = lit≤ tt }

module _ (f : Format) (a : ℕ) (some : 0 < a) (few : a < 2 ^ 32) where
  -- what lies between two closed fractions rounds to a positive number
  small_positive : T (positive (round f false a (2 ^ 30)))
  small_positive =
      between thirtieth (round f false a (2 ^ 30)) (power 2) tt tt
      (rw (known f).least at (round_mono f 1 (2 ^ 30) a (2 ^ 30) (pow_pos 30) (pow_pos 30) (omega arith)))
      (rw (known f).four at (round_mono f a (2 ^ 30) 4 1 (pow_pos 30) (pow_pos 0) (omega arith)))

  large_positive : T (positive (round f false a 1))
  large_positive =
      between one (round f false a 1) (power 32) tt tt
      (rw (known f).unit at (round_mono f 1 1 a 1 (pow_pos 0) (pow_pos 0) (omega arith)))
      (rw (known f).limit at (round_mono f a 1 (2 ^ 32) 1 (pow_pos 0) (pow_pos 0) (omega arith)))

  module _ (W : ℕ) (is : grid f a (2 ^ 30) ≡ W) where
    small : HasValue (round f false a (2 ^ 30)) false W (2 ^ low f)
    small = rw is at (round_val f a (2 ^ 30) (round_under f a (2 ^ 30) (positive-finite (round f false a (2 ^ 30)) small_positive)))

    scaled : grid f (a * 2 ^ 30) (2 ^ 30) ≡ W * 2 ^ 30
    scaled =
        grid_scale f a (2 ^ 30) 30 (pow_pos 30) (normal_of_fraction f a (2 ^ 30) (pow_pos 30) (le_trans (known f).normal (mul-le-mul_right (2 ^ low f) some)))
        ∙ ap (λ (x : ℕ). x * 2 ^ 30) is

    same : round f false a 1 ≡ round f false (a * 2 ^ 30) (2 ^ 30)
    same = round_same f false a 1 (a * 2 ^ 30) (2 ^ 30) (pow_pos 0) (pow_pos 30) (sym (mul-one (a * 2 ^ 30)))

    large : HasValue (round f false a 1) false (W * 2 ^ 30) (2 ^ low f)
    large =
        rw same (rw scaled at
        (round_val f (a * 2 ^ 30) (2 ^ 30) (round_under f (a * 2 ^ 30) (2 ^ 30) (rw same at (positive-finite (round f false a 1) large_positive)))))

    product : mul f (round f false a 1) thirtieth ≡ round f false a (2 ^ 30)
    product =
        mul_at f (round f false a 1) thirtieth (W * 2 ^ 30) (2 ^ low f) 1 (2 ^ 30) large_positive tt (pow_pos (low f)) (pow_pos 30) large (refl, refl)
        ∙ round_same f false (W * 2 ^ 30 * 1) (2 ^ low f * 2 ^ 30) W (2 ^ low f) (mul-pos (pow_pos (low f)) (pow_pos 30)) (pow_pos (low f))
        (regroup W (2 ^ 30) (2 ^ low f))
        ∙ again f (round f false a (2 ^ 30)) W (2 ^ low f) (pow_pos (low f))
        (value_pos (round f false a (2 ^ 30)) W (2 ^ low f) small_positive (pow_pos (low f)) small) (round-fits f false a (2 ^ 30)) small

-- the program rounds an angle once: to a float; its product with 2 ^ -30 is exact
pub rounds_once : (f : Format) (a : ℕ) → a < 2 ^ 32 → mul f (round f false a 1) thirtieth ≡ round f false a (2 ^ 30)
rounds_once f zero h = (known f).none
rounds_once f (suc a) h = product f (suc a) (zero-lt-suc a) h (grid f (suc a) (2 ^ 30)) refl

-- a negative angle is rounded once too: the sign is set behind
pub rounds_once_negated : (f : Format) (a : ℕ) → a < 2 ^ 32 → neg (mul f (round f false a 1) thirtieth) ≡ round f true a (2 ^ 30)
rounds_once_negated f a h = ap neg (rounds_once f a h) ∙ sym (round_negated f a (2 ^ 30))
