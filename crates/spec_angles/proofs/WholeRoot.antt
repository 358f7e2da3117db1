-- The root of a whole number: cut, digit by digit (`whole_root_lem`), and no other number is (`whole_root_unique`); to the nearest whole number
-- (`nearer_root`), since it is never half way between two; and two tests that only the nearest one passes (`tested_nearer`).
use mathlib.Core.Path.{◌≡◌, sym, ◌∙◌}
use mathlib.Core.Bool.{Bool, true, false, not, cond}
use Prim.Native.Nat.{ℕ, zero, suc, ◌+◌, ◌-◌, ◌*◌, ◌/◌, ◌^◌, ◌≤◌, ◌<◌}
use native.Mathlib.Nat.{lt_of_le_of_lt, lt_of_lt_of_le, pow-suc}
use native.Mathlib.Numerals.{add-one}
use native.Mathlib.Omega.{arith}
use lib.Dec.{T, leb, ltb, leb→le, nleb→lt, ltb→lt, nltb→le, lt→ltb}
use lib.Arith.{le→nltb}
use lib.Ieee.Bits.{is_true, is_false}
use Rattle.spec_angles.specs.Root.{square, digit, whole_root, nearer, WholeRoot, Near}
use Rattle.spec_angles.proofs.Powers.{square_lt, square_reflects}

next_digit : (n r : ℕ) → WholeRoot (n / 4) r → WholeRoot n (digit n (2 * r))
next_digit n r p = go (leb (square (2 * r + 1)) n) (leb→le (square (2 * r + 1)) n) (nleb→lt (square (2 * r + 1)) n)
  where
    go : (b : Bool) → (T b → square (2 * r + 1) ≤ n) → (T (not b) → n < square (2 * r + 1)) → WholeRoot n (cond b (2 * r + 1) (2 * r))
    go true h k = record { low = h tt; high = omega (arith, p.high) }
    go false h k = record { low = omega (arith, p.low); high = k tt }

-- the root found digit by digit is the root cut to a whole number
pub whole_root_lem : (d n : ℕ) → n < 2 ^ d * 2 ^ d → WholeRoot n (whole_root d n)
unfolding whole_root
whole_root_lem zero n h = record { low = omega arith; high = omega arith }
whole_root_lem (suc d) n h = next_digit n (whole_root d (n / 4)) (whole_root_lem d (n / 4) (omega (arith, rw (pow-suc 2 d) at h)))

-- a number has one cut root, however it is found
pub whole_root_unique : {n r s : ℕ} → WholeRoot n r → WholeRoot n s → r ≡ s
whole_root_unique {n} {r} {s} p q =
    let l : r < s + 1 = square_reflects (lt_of_le_of_lt p.low q.high) in
    let h : s < r + 1 = square_reflects (lt_of_le_of_lt q.low p.high) in
    omega arith

near_up : (n r : ℕ) → WholeRoot n r → r < n - r * r → Near n (r + 1)
near_up n r w g =
    let odd : 2 * (r + 1) - 1 ≡ 2 * r + 1 = omega arith in
    record { low = rw odd (omega arith); high = omega (arith, w.high) }

near_stay : (n r : ℕ) → 0 < r → WholeRoot n r → n - r * r ≤ r → Near n r
near_stay n r s w g =
    record { low = lt_of_lt_of_le (square_lt {a = 2 * r - 1} {b = 2 * r} (omega arith)) (omega (arith, w.low)); high = omega (arith, w.low) }

-- raised by one where the rest is larger than it, the cut root is the nearest: there is never a tie
pub nearer_root : (n r : ℕ) → 0 < r → WholeRoot n r → Near n (nearer n r)
nearer_root n r s w = go (ltb r (n - r * r)) (ltb→lt r (n - r * r)) (nltb→le r (n - r * r))
  where
    go : (b : Bool) → (T b → r < n - r * r) → (T (not b) → n - r * r ≤ r) → Near n (cond b (r + 1) r)
    go true h k = near_up n r w (h tt)
    go false h k = near_stay n r s w (k tt)

-- the nearest root is the cut root or the next number
pub nearer_between : (n r : ℕ) → (r ≤ nearer n r) × (nearer n r ≤ r + 1)
nearer_between n r = go (ltb r (n - r * r))
  where
    go : (b : Bool) → (r ≤ cond b (r + 1) r) × (cond b (r + 1) r ≤ r + 1)
    go true = omega arith
    go false = omega arith

-- ---- which way the cut root goes
-- where the rest is no larger than the cut root, that is the nearest
pub root_below : (n r : ℕ) → r * r ≤ n → n ≤ r * r + r → nearer n r ≡ r
root_below n r l h = simp (is_false (ltb r (n - r * r)) (le→nltb r (n - r * r) (omega arith)))

-- where the rest is larger than the cut root, the next number is the nearest
pub root_above : (n r : ℕ) → r * r + r < n → nearer n r ≡ r + 1
root_above n r h = simp (is_true (ltb r (n - r * r)) (lt→ltb r (n - r * r) (omega arith)))

-- A number that passes both tests is the nearest root, so the program may guess it: g² - g < n ≤ g² + g says that g - 1/2 < √n < g + 1/2.
pub tested_nearer : (d n g : ℕ) → n < 2 ^ d * 2 ^ d → g * g < n + g → n ≤ g * g + g → g ≡ nearer n (whole_root d n)
tested_nearer d n zero few over under = absurd (omega arith)
tested_nearer d n (suc q) few over under = go (ltb n (suc q * suc q)) (ltb→lt n (suc q * suc q)) (nltb→le n (suc q * suc q))
  where
    cut : WholeRoot n (whole_root d n)
    cut = whole_root_lem d n few

    go : (b : Bool) → (T b → n < suc q * suc q) → (T (not b) → suc q * suc q ≤ n) → suc q ≡ nearer n (whole_root d n)
    go true h k =
        let below : n < suc q * suc q = h tt in
        let r : q ≡ whole_root d n = whole_root_unique record { low = omega arith; high = omega arith } cut in
        rw (← r) (sym (add-one q) ∙ sym (root_above n q (omega arith)))
    go false h k =
        let above : suc q * suc q ≤ n = k tt in
        let r : suc q ≡ whole_root d n = whole_root_unique record { low = above; high = omega arith } cut in
        rw (← r) (sym (root_below n (suc q) above under))
