-- A format holds the numbers n * 2 ^ j with n below 2 * H, for an H that is a power of two: its grid, in units of its least value.
-- Where q * 2 ^ k is within half a step 2 ^ k of the root of a, and q is at least H, no other number of the grid is as near to that root.
-- Over whole numbers: nothing here is about floats.
use mathlib.Core.Path.{◌≡◌, sym, ap, ◌∙◌}
use mathlib.Core.Logic.{◌⊎◌, inl, inr}
use Prim.Native.Nat.{ℕ, ◌+◌, ◌-◌, ◌*◌, ◌^◌, ◌≤◌, ◌<◌}
use native.Mathlib.Nat.{le_trans, le_of_eq, lt_of_lt_of_le, lt_of_le_of_lt, lt_of_mul-lt-mul_right, mul_assoc, mul_comm, mul-le-mul_right, mul-le-mul_left, mul-lt-mul_of_pos_right, eq-or-lt_of_le, mul-sub, mul-mul-mul_comm, mul-pos}
use native.Mathlib.Decide.{dec_le}
use native.Mathlib.Omega.{arith}
use lib.Pow.{pow_pos, pow_mono}
use Rattle.spec_angles.specs.Root.{square, Near}
use Rattle.spec_angles.proofs.Powers.{square_mono, square_lt, pow_sum}

-- q * w lies within half a step w of the root of a, and from H * w on the grid has the step w or a wider one
pub record Rooted (H a q w : ℕ) : Type 0 where
  pub least : H ≤ q
  pub base : square (H * w) ≤ a
  pub low : square ((2 * q - 1) * w) < 4 * a
  pub high : 4 * a < square ((2 * q + 1) * w)

-- the nearest whole root of the leading digits, scaled back, lies within half a step of the root
pub rooted_of : (H n q w : ℕ) → 0 < w → H ≤ q → square H ≤ n → Near n q → Rooted H (n * (w * w)) q w
rooted_of H n q w W l b r =
    let some : 0 < w * w = mul-pos W W in
    record {
      least = l;
      base = omega (arith, mul-le-mul_right (w * w) b);
      low = rw (mul-mul-mul_comm (2 * q - 1) w (2 * q - 1) w, ← mul_assoc 4 n (w * w)) (mul-lt-mul_of_pos_right r.low some);
      high = rw (mul-mul-mul_comm (2 * q + 1) w (2 * q + 1) w, ← mul_assoc 4 n (w * w)) (mul-lt-mul_of_pos_right r.high some);
    }

-- all that matters of a number of the grid: it is a multiple of w, or it lies below H * w
abbrev pub OnGrid : (H w y : ℕ) → Type 0
OnGrid H w y = ((t : ℕ) × (y ≡ t * w)) ⊎ (y < H * w)

-- every value of the format is on the grid, seen from any step
pub on_grid : (H n j k : ℕ) → n < H * 2 → OnGrid H (2 ^ k) (n * 2 ^ j)
on_grid H n j k h = go (dec_le k j)
  where
    go : Dec (k ≤ j) → OnGrid H (2 ^ k) (n * 2 ^ j)
    go (yes l) = inl (n * 2 ^ (j - k), rw (mul_assoc n (2 ^ (j - k)) (2 ^ k), pow_sum (j - k) k j (omega arith)))
    go (no g) =
        inr
        (lt_of_lt_of_le (mul-lt-mul_of_pos_right h (pow_pos j))
        (le_trans (le_of_eq (mul_assoc H 2 (2 ^ j) ∙ ap (λ (x : ℕ). H * x) (pow_sum 1 j (1 + j) (omega arith)))) (mul-le-mul_left H (pow_mono (omega arith)))))

module _ (H a q w y : ℕ) (r : Rooted H a q w) where
  -- every number of the grid above q * w is a step above it at least
  a_step_above : q * w < y → OnGrid H w y → (2 * q + 1) * w ≤ q * w + y
  a_step_above h (inl g) =
      let l : q < g.0 = lt_of_mul-lt-mul_right w (lt_of_lt_of_le h (le_of_eq g.1)) in
      omega (arith, g.1, mul-le-mul_right w l)
  a_step_above h (inr g) = absurd (omega (arith, mul-le-mul_right w r.least))

  -- of the grid's numbers above, none is as near to the root
  pub nearer_than_above : q * w < y → OnGrid H w y → 4 * a < square (q * w + y)
  nearer_than_above h g = lt_of_lt_of_le r.high (square_mono (a_step_above h g))

  -- every number of the grid below q * w is a step below it at least, unless q * w is H * w, which is at most the root
  a_step_below : y + w ≤ q * w → q * w + y ≤ (2 * q - 1) * w
  a_step_below h = rw (mul_comm (2 * q - 1) w, mul-sub w (2 * q) 1) (omega arith)

  -- of the grid's numbers below, none is as near to the root
  pub nearer_than_below : y < q * w → OnGrid H w y → square (q * w + y) < 4 * a
  nearer_than_below h (inl g) =
      let l : g.0 < q = lt_of_mul-lt-mul_right w (lt_of_le_of_lt (le_of_eq (sym g.1)) h) in
      lt_of_le_of_lt (square_mono (a_step_below (omega (arith, g.1, mul-le-mul_right w l)))) r.low
  nearer_than_below h (inr g) = go (eq-or-lt_of_le r.least)
    where
      go : (H ≡ q) ⊎ (H < q) → square (q * w + y) < 4 * a
      go (inl e) = lt_of_lt_of_le (square_lt {a = q * w + y} {b = 2 * (H * w)} (omega (arith, ap (λ (x : ℕ). x * w) e))) (omega (arith, r.base))
      go (inr l) = lt_of_le_of_lt (square_mono (a_step_below (omega (arith, mul-le-mul_right w l)))) r.low
