-- The smaller of two magnitudes over the larger, rounded, is a number from 0 to 1 (`ratio_at_most_one`): rounding keeps the order, and 1 is a value
-- of the format. The table of arc tangents goes no further.
use mathlib.Core.Path.{◌≡◌, refl}
use mathlib.Core.Bool.{Bool, true, false, not, cond}
use Prim.Native.Nat.{ℕ, zero, suc, ◌*◌, ◌≤◌, ◌<◌, zero-le}
use native.Mathlib.Nat.{mul-pos, le_of_lt, lt_of_le_of_lt, lt_of_lt_of_le}
use native.Mathlib.Omega.{arith}
use lib.Dec.{T, eqb-suc-zero}
use lib.Pow.{pow_pos}
use lib.Ieee.{Float, fin, Format, binary32, binary64, up, down, round, le, lt, div, inf, nan}
use lib.Ieee.Fits.{down_pos, round-fits}
use lib.Ieee.Order.{round_mono}
use lib.Ieee.Positive.{num, den, den_pos, first_pos}
use lib.Ieee.Scale.{finite}
use Rattle.spec_numbers.specs.Values.{one, abs, unsigned}
use Rattle.spec_angles.specs.Angle.{AtMostOne, Askable, ratio}
use Rattle.spec_numbers.proofs.Within.{some_magnitude, round_unsigned, le_says}
use Rattle.spec_angles.proofs.RootLaw.{lt_says, not_lt_says}

-- ---- a / b for magnitudes a up to b
one_rounds : (f : Format) → round f false 1 1 ≡ one
unfolding round
one_rounds binary32 = refl
one_rounds binary64 = refl

round_at_most_one : (f : Format) (a c : ℕ) → 0 < c → a ≤ c → AtMostOne f (round f false a c)
round_at_most_one f a c C h =
    let r = round f false a c in
    let l : T (le r one) = rw (one_rounds f) at (round_mono f a c 1 1 C (pow_pos 0) (omega arith)) in
    let p = round_unsigned f a c 1 _ l in
    record { holds = round-fits f false a c; is_unsigned = p; most = omega (arith, le_says r one p tt l) }

quotient_at_most_one : (f : Format) (a b : Float) → T (unsigned a) → T (unsigned b) → 0 < num b → num a * den b ≤ num b * den a → AtMostOne f (div f a b)
unfolding div
quotient_at_most_one f (fin false m e) (fin false zero d) p q s h = absurd (omega arith)
quotient_at_most_one f (fin false m e) (fin false (suc n) d) p q s h =
    rw (eqb-suc-zero n) (round_at_most_one f (m * up e * down d) (suc n * up d * down e) (mul-pos s (down_pos e)) h)
quotient_at_most_one f nan b p q s h = elim p [ ]
quotient_at_most_one f (inf _) b p q s h = elim p [ ]
quotient_at_most_one f (fin false m e) nan p q s h = elim q [ ]
quotient_at_most_one f (fin false m e) (inf _) p q s h = elim q [ ]
quotient_at_most_one f (fin false m e) (fin true _ d) p q s h = elim q [ ]
quotient_at_most_one f (fin true m e) b p q s h = elim p [ ]

-- ---- the two ways round
abs_unsigned : (x : Float) → T (finite x) → T (unsigned (abs x))
abs_unsigned (fin s m e) k = tt
abs_unsigned nan k = elim k [ ]
abs_unsigned (inf _) k = elim k [ ]

abs_num : (x : Float) → T (finite x) → num (abs x) ≡ num x
abs_num (fin s m e) k = refl
abs_num nan k = elim k [ ]
abs_num (inf _) k = elim k [ ]

-- the smaller magnitude over the larger, rounded, lies from 0 to 1, where the table has its entries
pub ratio_at_most_one : (f : Format) (n d : Float) → Askable n d → AtMostOne f (ratio f n d)
unfolding ratio
ratio_at_most_one f n d k = go (lt (abs d) (abs n)) (λ (h : T (lt (abs d) (abs n))). h) (λ (h : T (not (lt (abs d) (abs n)))). h)
  where
    N : T (unsigned (abs n))
    N = abs_unsigned n k.above

    D : T (unsigned (abs d))
    D = abs_unsigned d k.under

    go : (b : Bool) → (T b → T (lt (abs d) (abs n))) → (T (not b) → T (not (lt (abs d) (abs n))))
        → AtMostOne f (cond b (div f (abs d) (abs n)) (div f (abs n) (abs d)))
    go true is other =
        let l = lt_says (abs d) (abs n) D N (is tt) in
        quotient_at_most_one f (abs d) (abs n) D N (first_pos (num (abs n)) (den (abs d)) (lt_of_le_of_lt zero-le l)) (le_of_lt l)
    go false is other =
        let l = not_lt_says (abs d) (abs n) D N (other tt) in
        let s : 0 < num (abs n) = rw (abs_num n k.above) (some_magnitude n k.above k.some) in
        quotient_at_most_one f (abs n) (abs d) N D (first_pos (num (abs d)) (den (abs n)) (lt_of_lt_of_le (mul-pos s (den_pos (abs d))) l)) l
