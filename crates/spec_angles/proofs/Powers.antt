-- Squares and powers of two keep their order, both ways; a power of two in two factors. The laws of the root compare by these.
use mathlib.Core.Path.{◌≡◌, ap}
use Prim.Native.Nat.{ℕ, ◌+◌, ◌*◌, ◌^◌, ◌≤◌, ◌<◌, zero-le}
use native.Mathlib.Nat.{le_of_lt, le_of_suc-le-suc, lt_of_le_of_lt, mul-le-mul, mul-le-mul_left, mul-lt-mul_of_pos_right, lt_of_not-le, not-le_of_lt}
use lib.Pow.{pow-add, pow-lt, pow_mono}

-- squaring keeps the order of whole numbers
pub square_mono : {a b : ℕ} → a ≤ b → a * a ≤ b * b
square_mono h = mul-le-mul h h

-- squaring keeps their strict order
pub square_lt : {a b : ℕ} → a < b → a * a < b * b
square_lt {a} h = lt_of_le_of_lt (mul-le-mul_left a (le_of_lt h)) (mul-lt-mul_of_pos_right h (lt_of_le_of_lt zero-le h))

-- the smaller square has the smaller root
pub square_reflects : {a b : ℕ} → a * a < b * b → a < b
square_reflects h = lt_of_not-le (λ g. not-le_of_lt h (square_mono g))

-- powers of two are ordered as their exponents are
pub pow_reflects : {a b : ℕ} → 2 ^ a ≤ 2 ^ b → a ≤ b
pow_reflects h = le_of_suc-le-suc (lt_of_not-le (λ g. not-le_of_lt (pow-lt g) h))

-- powers of two are strictly ordered as their exponents are
pub pow_lt_reflects : {a b : ℕ} → 2 ^ a < 2 ^ b → a < b
pow_lt_reflects h = lt_of_not-le (λ g. not-le_of_lt h (pow_mono g))

-- a power of two in two factors: the exponents add up
pub pow_sum : (a b c : ℕ) → a + b ≡ c → 2 ^ a * 2 ^ b ≡ 2 ^ c
pow_sum a b c h = rw (← pow-add 2 a b) (ap (λ (x : ℕ). 2 ^ x) h)
