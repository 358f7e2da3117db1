-- The root of a binary32 from its bits: its units, written by fours (`scaled_subnormal`, `scaled_normal`), the root of the digits (`nearest_root`),
-- and the bits of the answer, which the two make (`bits_root`).
use mathlib.Core.Path.{◌≡◌, refl, sym}
use mathlib.Core.Bool.{false}
use Prim.Native.Nat.{ℕ, suc, ◌+◌, ◌-◌, ◌*◌, ◌/◌, ◌%◌, ◌^◌, ◌≤◌, ◌<◌}
use native.Mathlib.Nat.{le_trans, le_of_eq, lt_of_lt_of_le, lt_of_le_of_lt, mul_assoc, mul-le-mul, mul-le-mul_left, mul-le-mul_right, mul-lt-mul_of_pos_right, mod-eq_of_lt}
use native.Mathlib.Omega.{arith}
use lib.Pow.{pow_pos, pow_mono}
use lib.Count.{count_leading_zeros, leading_top}
use lib.Ieee.{binary32, of_bits}
use lib.Ieee.Bits.{of_bits-fits}
use lib.Ieee.Exact.{HasValue}
use lib.Ieee.Positive.{value→cross}
use Rattle.spec_numbers.proofs.Within.{value_is_unsigned}
use Rattle.spec_angles.specs.Root.{IsRoot, WholeRoot, nearer, whole_root}
use Rattle.spec_angles.specs.RootByBits.{NearestRoot, InFours, Scaled, units_of}
use Rattle.spec_angles.proofs.Powers.{square_reflects, pow_lt_reflects, pow_sum}
use Rattle.spec_angles.proofs.WholeRoot.{whole_root_lem, nearer_root, nearer_between}
use Rattle.spec_angles.proofs.Bits.{units_subnormal, units_normal, units_of_pattern, bits_value}
use Rattle.spec_angles.proofs.Grid.{rooted_of}
use Rattle.spec_angles.proofs.RootLaw.{root_law}

-- ---- a number of at most 24 digits times a power of two, by fours
-- the leading zeros z of such a number in 32 places, and the number shifted up by z - 8 of them: it has 24 digits
pub record Spare (n z : ℕ) : Type 0 where
  pub least : 8 ≤ z
  pub most : z ≤ 31
  pub low : 2 ^ 23 ≤ n * 2 ^ (z - 8)
  pub high : n * 2 ^ (z - 8) < 2 ^ 24

-- the leading zeros of a significand say how far it is shifted to have 24 digits
pub spare_of : (n : ℕ) → 0 < n → n < 2 ^ 24 → Spare n (count_leading_zeros 32 n)
spare_of n p h =
    let z = count_leading_zeros 32 n in
    let t = leading_top 32 n p (omega arith) in
    let j = t.0 in
    let s : z + suc j ≡ 32 = t.1 in
    let few : j < 24 = pow_lt_reflects (lt_of_le_of_lt t.2 h) in
    record {
      least = omega arith;
      most = omega arith;
      low = le_trans (le_of_eq (sym (pow_sum j (z - 8) 23 (omega arith)))) (mul-le-mul_right (2 ^ (z - 8)) t.2);
      high = lt_of_lt_of_le (mul-lt-mul_of_pos_right t.3 (pow_pos (z - 8))) (le_of_eq (pow_sum (suc j) (z - 8) 24 (omega arith)));
    }

-- the program's shift leaves 47 or 48 digits and an even power, so that the power's root is exact
pub split_of : (n power z : ℕ) → Spare n z → 149 ≤ power → power < 403
    → InFours n power ((n * 2 ^ (z - 8 + 23 + (power - (z - 8) - 23) % 2)) % 2 ^ 64) ((power - (z - 8) - 23) / 2)
split_of n power z s l h =
    let rest = power - (z - 8) - 23 in
    let shift = z - 8 + 23 + rest % 2 in
    let more = 23 + rest % 2 in
    let apart : n * 2 ^ shift ≡ n * 2 ^ (z - 8) * 2 ^ more = rw (mul_assoc n (2 ^ (z - 8)) (2 ^ more), pow_sum (z - 8) more shift (omega arith)) in
    let high : n * 2 ^ shift < 2 ^ 48 =
    rw apart (lt_of_lt_of_le (mul-lt-mul_of_pos_right s.high (pow_pos more)) (mul-le-mul_left (2 ^ 24) (pow_mono {i = more} {j = 24} (omega arith)))) in
    let whole : (n * 2 ^ shift) % 2 ^ 64 ≡ n * 2 ^ shift = mod-eq_of_lt (omega arith) in
    rw whole
    record {
      least = rw apart (mul-le-mul s.low (pow_mono {i = 23} {j = more} (omega arith)));
      most = high;
      few = omega arith;
      same = rw (
        mul_assoc n (2 ^ shift) (2 ^ (rest / 2) * 2 ^ (rest / 2)),
        pow_sum (rest / 2) (rest / 2) (rest / 2 + rest / 2) refl,
        pow_sum shift (rest / 2 + rest / 2) power (omega arith),
      );
    }

-- the split of a subnormal number's pattern is the split of its units
pub scaled_subnormal : (b d s : ℕ) → b < 2 ^ 23 → InFours b 149 d s → Scaled (units_of b) d s
scaled_subnormal b d s h p = rw (units_subnormal b h) p

-- the split of a normal number's significand is the split of its units: the field x stands for 2 ^ (x - 1), and 148 + x is (x - 1) + 149
pub scaled_normal : (b d s : ℕ) → 2 ^ 23 ≤ b → InFours (2 ^ 23 + b % 2 ^ 23) (148 + b / 2 ^ 23) d s → Scaled (units_of b) d s
scaled_normal b d s h p = record {
  least = p.least;
  most = p.most;
  few = p.few;
  same =
      rw (units_normal b h, mul_assoc (2 ^ 23 + b % 2 ^ 23) (2 ^ (b / 2 ^ 23 - 1)) (2 ^ 149), pow_sum (b / 2 ^ 23 - 1) 149 (148 + b / 2 ^ 23) (omega arith))
      p.same;
}

-- ---- the root of the digits
-- the nearest root of 47 or 48 digits is a significand: it has 24 digits, or is 2 ^ 24
pub nearest_root : (n : ℕ) → 2 ^ 46 ≤ n → n < 2 ^ 48 → NearestRoot n (nearer n (whole_root 24 n))
nearest_root n l h =
    let r = whole_root 24 n in
    let w : WholeRoot n r = whole_root_lem 24 n (omega arith) in
    let least : 2 ^ 23 < r + 1 = square_reflects (lt_of_le_of_lt l w.high) in
    let most : r < 2 ^ 24 = square_reflects (lt_of_le_of_lt w.low h) in
    let b = nearer_between n r in
    record { least = omega arith; most = omega arith; near = nearer_root n r (omega arith) w }

-- ---- the bits of the root
-- scale and nearest root, put together as a pattern, are the bits of the root: so the program is right
pub bits_root : (b d k q : ℕ) → b < 0x7f80_0000 → Scaled (units_of b) d k → NearestRoot d q
    → IsRoot binary32 (of_bits binary32 b) (of_bits binary32 (k * 2 ^ 23 + q))
bits_root b d k q h p r =
    let x = of_bits binary32 b in
    let c = k * 2 ^ 23 + q in
    let few : c < 0x7f80_0000 = omega (arith, p.few, r.most) in
    let v : HasValue (of_bits binary32 c) false (q * 2 ^ k) (2 ^ 149) = rw (units_of_pattern q k r.least r.most) at (bits_value c few) in
    root_law binary32 x (of_bits binary32 c) (units_of b) q k
    (value→cross x (units_of b) (2 ^ 149) (bits_value b h))
    (value→cross (of_bits binary32 c) (q * 2 ^ k) (2 ^ 149) v)
    (of_bits-fits binary32 c)
    (value_is_unsigned (of_bits binary32 c) (q * 2 ^ k) (2 ^ 149) v)
    (rw (← p.same) (rooted_of (2 ^ 23) d q (2 ^ k) (pow_pos k) r.least p.least r.near))
