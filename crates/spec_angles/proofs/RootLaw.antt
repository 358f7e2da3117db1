-- The law of the root: where a value r of a format is q * 2 ^ k units, within half a step of the root of x, r is that format's root (`root_law`).
-- No other value is (`root_unique`), and the root of zero is +0 (`root_of_zero`). For every format.
use mathlib.Core.Path.{◌≡◌, refl, ap}
use mathlib.Core.Bool.{false, not, true}
use Prim.Native.Nat.{ℕ, zero, suc, ◌+◌, ◌-◌, ◌*◌, ◌^◌, ◌≤◌, ◌<◌}
use native.Mathlib.Nat.{add_comm, mul_assoc, mul_comm, mul_left_comm, mul-pos, zero-mul, mul-lt-mul_of_pos_right, lt_of_mul-lt-mul_right, lt_of_le_of_lt, le_of_eq, lt_irrefl, lt_trans}
use native.Mathlib.Decide.{dec_lt}
use native.Mathlib.Omega.{arith}
use lib.IntN.{pos}
use lib.Dec.{T, T_not, ltb→lt, lt→ltb}
use lib.Pow.{pow-add, pow_pos}
use lib.Ieee.{Float, fin, Format, binary32, binary64, prec, emax, low, up, down, fits, lt, inf, nan}
use lib.Ieee.Positive.{num, den, den_pos}
use Rattle.spec_numbers.specs.Values.{unsigned}
use Rattle.spec_numbers.proofs.Unique.{raised, sunk, up_is, down_is, normal, unique_finite}
use Rattle.spec_angles.specs.Root.{BelowMiddle, AboveMiddle, IsRoot}
use Rattle.spec_angles.proofs.Powers.{square_lt, pow_reflects, pow_sum}
use Rattle.spec_angles.proofs.Grid.{Rooted, on_grid, nearer_than_above, nearer_than_below}

-- ---- a value of the format is n * 2 ^ j units
pub record Units (f : Format) (y : Float) : Type 0 where
  pub digits : ℕ
  pub places : ℕ
  pub few : digits < 2 ^ prec f
  pub under : digits * 2 ^ places < 2 ^ (low f + suc (emax f))
  pub is : num y * 2 ^ low f ≡ digits * 2 ^ places * den y

regroup : (n u w d : ℕ) → n * u * (d * w) ≡ n * (u * w) * d
regroup n u w d = simp (mul_assoc, mul_comm)

-- every value that is not negative is a whole number of the format's least values, with few digits
pub units_of : (f : Format) (y : Float) → T (fits f y) → T (unsigned y) → Units f y
units_of f (fin false zero e) h k = record { digits = 0; places = 0; few = pow_pos (prec f); under = pow_pos (low f + suc (emax f)); is = simp zero-mul }
units_of f (fin false (suc m) e) h k =
    let n = normal f false m e h in
    let spare = low f - sunk e in
    let d : down e * 2 ^ spare ≡ 2 ^ low f = rw (down_is e) (pow_sum (sunk e) spare (low f) (omega (arith, pow_reflects (rw (down_is e) at n.deep)))) in
    record {
      digits = suc m;
      places = raised e + spare;
      few = n.digits;
      under =
          rw (pow-add 2 (raised e) spare, ← up_is e, pow-add 2 (low f) (suc (emax f)), ← d) (omega (arith, mul-lt-mul_of_pos_right n.high (pow_pos spare)));
      is = rw (← d, pow-add 2 (raised e) spare, ← up_is e) (regroup (suc m) (up e) (2 ^ spare) (down e));
    }
units_of f nan h k = elim k [ ]
units_of f (inf _) h k = elim k [ ]
units_of f (fin true _ e) h k = elim k [ ]

-- ---- from fractions to units of 1 / L
-- a / c and b / d are R / L and Y / L, and in the same order
order : (a c b d R Y L : ℕ) → 0 < L → a * L ≡ R * c → b * L ≡ Y * d → a * d < b * c → R < Y
order a c b d R Y L l p q h =
    lt_of_mul-lt-mul_right (c * d)
    (omega (arith, mul-lt-mul_of_pos_right h l, ap (λ (z : ℕ). z * d) p, ap (λ (z : ℕ). z * c) q))

-- the sum of the two is U / L, and M is the product of the denominators
sum_is : (a c b d R Y L : ℕ) → a * L ≡ R * c → b * L ≡ Y * d → (a * d + b * c) * L ≡ (R + Y) * (c * d)
sum_is a c b d R Y L p q = omega (arith, ap (λ (z : ℕ). z * d) p, ap (λ (z : ℕ). z * c) q)

module _ (x cx M S N U L : ℕ) (p : x * L ≡ N * cx) (q : S * L ≡ U * M) where
  left : 4 * x * (M * M) * (L * L) ≡ 4 * (N * L) * (M * M * cx)
  left = simp (mul_assoc, mul_comm, mul_left_comm) (simp (mul_assoc, mul_comm, mul_left_comm) at (ap (λ (z : ℕ). z * (4 * (M * M) * L)) p))

  right : S * S * cx * (L * L) ≡ U * U * (M * M * cx)
  right = simp (mul_assoc, mul_comm, mul_left_comm) (simp (mul_assoc, mul_comm, mul_left_comm) at (ap (λ (z : ℕ). z * z * cx) q))

  below : 0 < M * M * cx → 4 * (N * L) < U * U → 4 * x * (M * M) < S * S * cx
  below P h = lt_of_mul-lt-mul_right (L * L) (rw (left, right) (mul-lt-mul_of_pos_right h P))

  above : 0 < M * M * cx → U * U < 4 * (N * L) → S * S * cx < 4 * x * (M * M)
  above P h = lt_of_mul-lt-mul_right (L * L) (rw (left, right) (mul-lt-mul_of_pos_right h P))

-- ---- what `lt` says of two values that are not negative
-- the float that compares below has the smaller fraction
pub lt_says : (x y : Float) → T (unsigned x) → T (unsigned y) → T (lt x y) → num x * den y < num y * den x
unfolding lt
lt_says (fin false m e) (fin false n d) p q h = ltb→lt (m * up e * down d) (n * up d * down e) h
lt_says nan y p q h = elim p [ ]
lt_says (inf _) y p q h = elim p [ ]
lt_says (fin false m e) nan p q h = elim q [ ]
lt_says (fin false m e) (inf _) p q h = elim q [ ]
lt_says (fin false m e) (fin true n d) p q h = elim q [ ]
lt_says (fin true m e) y p q h = elim p [ ]

-- the float with the smaller fraction compares below
pub lt_holds : (x y : Float) → T (unsigned x) → T (unsigned y) → num x * den y < num y * den x → T (lt x y)
unfolding lt
lt_holds (fin false m e) (fin false n d) p q h = lt→ltb (m * up e * down d) (n * up d * down e) h
lt_holds nan y p q h = elim p [ ]
lt_holds (inf _) y p q h = elim p [ ]
lt_holds (fin false m e) nan p q h = elim q [ ]
lt_holds (fin false m e) (inf _) p q h = elim q [ ]
lt_holds (fin false m e) (fin true n d) p q h = elim q [ ]
lt_holds (fin true m e) y p q h = elim p [ ]

-- the float that does not compare below has no smaller fraction
pub not_lt_says : (x y : Float) → T (unsigned x) → T (unsigned y) → T (not (lt x y)) → num y * den x ≤ num x * den y
not_lt_says x y p q h = go (dec_lt (num x * den y) (num y * den x))
  where
    go : Dec (num x * den y < num y * den x) → num y * den x ≤ num x * den y
    go (yes l) = absurd (T_not (lt x y) h (lt_holds x y p q l))
    go (no n) = omega arith

-- ---- the law
-- the least significand that has all of the format's digits
abbrev pub half : Format → ℕ
half f = 2 ^ (prec f - 1)

twice_half : (f : Format) → 2 ^ prec f ≡ half f * 2
twice_half binary32 = refl
twice_half binary64 = refl

-- within half a step is nearest: x is N units, r is q * 2 ^ k units, and in units the root of x is the root of N * 2 ^ low
pub root_law : (f : Format) (x r : Float) (N q k : ℕ) → num x * 2 ^ low f ≡ N * den x → num r * 2 ^ low f ≡ q * 2 ^ k * den r → T (fits f r) → T (unsigned r)
    → Rooted (half f) (N * 2 ^ low f) q (2 ^ k) → IsRoot f x r
root_law f x r N q k X R F P g = record { holds = F; is_unsigned = P; above = higher; under = lower }
  where
    room : (y : Float) → 0 < den r * den y * (den r * den y) * den x
    room y = mul-pos (mul-pos (mul-pos (den_pos r) (den_pos y)) (mul-pos (den_pos r) (den_pos y))) (den_pos x)

    higher : (y : Float) → T (fits f y) → T (unsigned y) → T (lt r y) → BelowMiddle x r y
    higher y h p l =
        let u = units_of f y h p in
        let Y = u.digits * 2 ^ u.places in
        below (num x) (den x) (den r * den y) (num r * den y + num y * den r) N (q * 2 ^ k + Y) (2 ^ low f) X
        (sum_is (num r) (den r) (num y) (den y) (q * 2 ^ k) Y (2 ^ low f) R u.is) (room y)
        (nearer_than_above (half f) (N * 2 ^ low f) q (2 ^ k) Y g
        (order (num r) (den r) (num y) (den y) (q * 2 ^ k) Y (2 ^ low f) (pow_pos (low f)) R u.is (lt_says r y P p l))
        (on_grid (half f) u.digits u.places k (rw (twice_half f) at u.few)))

    lower : (y : Float) → T (fits f y) → T (unsigned y) → T (lt y r) → AboveMiddle x r y
    lower y h p l =
        let u = units_of f y h p in
        let Y = u.digits * 2 ^ u.places in
        above (num x) (den x) (den r * den y) (num r * den y + num y * den r) N (q * 2 ^ k + Y) (2 ^ low f) X
        (sum_is (num r) (den r) (num y) (den y) (q * 2 ^ k) Y (2 ^ low f) R u.is) (room y)
        (nearer_than_below (half f) (N * 2 ^ low f) q (2 ^ k) Y g
        (order (num y) (den y) (num r) (den r) Y (q * 2 ^ k) (2 ^ low f) (pow_pos (low f)) u.is R (lt_says y r p P l))
        (on_grid (half f) u.digits u.places k (rw (twice_half f) at u.few)))

-- ---- zero
-- the root of either zero is +0
pub root_of_zero : (f : Format) (x : Float) → num x ≡ 0 → IsRoot f x (fin false 0 (pos 0))
root_of_zero f x z = record { holds = unfold fits in tt; is_unsigned = tt; above = higher; under = lower }
  where
    higher : (y : Float) → T (fits f y) → T (unsigned y) → T (lt (fin false 0 (pos 0)) y) → BelowMiddle x (fin false 0 (pos 0)) y
    higher y h p l =
        let Y : 0 < num y = omega (arith, lt_says (fin false 0 (pos 0)) y tt p l) in
        rw z (lt_of_le_of_lt (le_of_eq (simp zero-mul)) (mul-pos (square_lt {a = 0} {b = 0 * den y + num y * 1} (omega arith)) (den_pos x)))

    lower : (y : Float) → T (fits f y) → T (unsigned y) → T (lt y (fin false 0 (pos 0))) → AboveMiddle x (fin false 0 (pos 0)) y
    lower y h p l = absurd (omega (arith, lt_says y (fin false 0 (pos 0)) p tt l))

-- ---- one root
-- with the two values in the other order, the sum of the fractions and the product of the denominators are the same
turned : (x r y : Float) → AboveMiddle x y r → AboveMiddle x r y
turned x r y h = rw (add_comm (num r * den y) (num y * den r), mul_comm (den r) (den y)) h

same_value : (f : Format) (x y : Float) → T (fits f x) → T (fits f y) → T (unsigned x) → T (unsigned y) → num x * den y ≡ num y * den x → x ≡ y
same_value f (fin false m e) (fin false n d) h k p q v = unique_finite f false m e n d h k v
same_value f nan y h k p q v = elim p [ ]
same_value f (inf _) y h k p q v = elim p [ ]
same_value f (fin false m e) nan h k p q v = elim q [ ]
same_value f (fin false m e) (inf _) h k p q v = elim q [ ]
same_value f (fin false m e) (fin true n d) h k p q v = elim q [ ]
same_value f (fin true m e) y h k p q v = elim p [ ]

-- a number has one root in a format, so the definition of the root fixes the program's answer
pub root_unique : (f : Format) (x r y : Float) → IsRoot f x r → IsRoot f x y → r ≡ y
root_unique f x r y R Y = go (dec_lt (num r * den y) (num y * den r)) (dec_lt (num y * den r) (num r * den y))
  where
    apart : (a b : Float) → IsRoot f x a → IsRoot f x b → num a * den b < num b * den a → ⊥
    apart a b A B h =
        let l = lt_holds a b A.is_unsigned B.is_unsigned h in
        lt_irrefl _ (lt_trans (A.above b B.holds B.is_unsigned l) (turned x a b (B.under a A.holds A.is_unsigned l)))

    go : Dec (num r * den y < num y * den r) → Dec (num y * den r < num r * den y) → r ≡ y
    go (yes l) d = absurd (apart r y R Y l)
    go (no g) (yes l) = absurd (apart y r Y R l)
    go (no g) (no h) = same_value f r y R.holds Y.holds R.is_unsigned Y.is_unsigned (omega arith)
