-- The patterns of binary32 below 7F800000 are the finite numbers with the sign clear, and each stands for `units_of` times the least value, 2 ^ -149.
-- The program takes roots from these patterns.
use mathlib.Core.Path.{◌≡◌, refl}
use mathlib.Core.Bool.{Bool, true, false, not, ◌||◌, beq, cond}
use mathlib.Core.Logic.{inl, inr}
use Prim.Native.Nat.{ℕ, zero, suc, ◌+◌, ◌-◌, ◌*◌, ◌/◌, ◌%◌, ◌^◌, ◌≤◌, ◌<◌}
use native.Mathlib.Nat.{mod-eq_of_lt, mul-one, pow-suc, eq-or-lt_of_le}
use native.Mathlib.Decide.{dec_lt}
use native.Mathlib.Omega.{arith}
use lib.IntN.{pos}
use lib.Dec.{T, leb, eqb, ltb, lt→ltb, le→leb, eqb→eq, not_T}
use lib.Arith.{lt→nleb, le→nltb}
use lib.Ieee.{Float, nan, inf, fin, binary32, odd, of_fields, of_bits, to_bits, fits, is_nan, nan_bits, eq, up, down}
use lib.Ieee.Bits.{of_bits-to_bits, nan_bits_is, is_true, is_false, cond_no}
use lib.Ieee.Fits.{and_l}
use lib.Ieee.Positive.{num}
use lib.Ieee.Exact.{HasValue, odd_sign}
use Rattle.spec_numbers.specs.Values.{unsigned}
use Rattle.spec_numbers.proofs.Unique.{zero_exponent}
use Rattle.spec_angles.specs.Root.{rootable}
use Rattle.spec_angles.specs.RootByBits.{units_of}

-- ---- `units_of` below 2 ^ 23, where a number is subnormal, and from there on
-- the pattern of a subnormal number is its number of units
pub units_subnormal : (b : ℕ) → b < 2 ^ 23 → units_of b ≡ b
units_subnormal b h = rw (is_true (ltb b (2 ^ 23)) (lt→ltb b (2 ^ 23) h)) refl

-- a normal number's units are its significand, shifted by its exponent's field less one
pub units_normal : (b : ℕ) → 2 ^ 23 ≤ b → units_of b ≡ (2 ^ 23 + b % 2 ^ 23) * 2 ^ (b / 2 ^ 23 - 1)
units_normal b h = rw (is_false (ltb b (2 ^ 23)) (le→nltb b (2 ^ 23) h)) refl

-- ---- the bits that stand for q * 2 ^ k, where q has 24 binary digits, or is 2 ^ 24
-- the leading digit of q adds one to the exponent's field, and a carry adds one more
of_digits : (q k b : ℕ) → 2 ^ 23 ≤ q → q < 2 ^ 24 → b ≡ k * 2 ^ 23 + q → units_of b ≡ q * 2 ^ k
of_digits q k b l h e =
    let d : 2 ^ 23 + b % 2 ^ 23 ≡ q = omega arith in
    let f : b / 2 ^ 23 - 1 ≡ k = omega arith in
    rw (units_normal b (omega arith), d, f)

of_carry : (k b : ℕ) → b ≡ k * 2 ^ 23 + 2 ^ 24 → units_of b ≡ 2 ^ 24 * 2 ^ k
of_carry k b e =
    let d : 2 ^ 23 + b % 2 ^ 23 ≡ 2 ^ 23 = omega arith in
    let f : b / 2 ^ 23 - 1 ≡ suc k = omega arith in
    rw (units_normal b (omega arith), d, f, pow-suc 2 k) (omega arith)

-- the pattern that the program makes has the units it means; a significand rounded up to 2 ^ 24 carries into the exponent
pub units_of_pattern : (q k : ℕ) → 2 ^ 23 ≤ q → q ≤ 2 ^ 24 → units_of (k * 2 ^ 23 + q) ≡ q * 2 ^ k
units_of_pattern q k l h = elim (eq-or-lt_of_le h) [
  | inl e ↦ rw e (of_carry k (k * 2 ^ 23 + 2 ^ 24) refl)
  | inr g ↦ of_digits q k (k * 2 ^ 23 + q) l g refl
]

-- ---- the fields of the bits
of_bits_is : (b : ℕ) → of_bits binary32 b ≡ of_fields binary32 (leb (2 ^ 31) b) (b % 2 ^ 31 / 2 ^ 23) (b % 2 ^ 23)
unfolding of_bits
of_bits_is b = refl

sign_clear : (b : ℕ) → b < 2 ^ 31 → of_bits binary32 b ≡ of_fields binary32 false (b / 2 ^ 23) (b % 2 ^ 23)
sign_clear b h = rw (of_bits_is b, is_false (leb (2 ^ 31) b) (lt→nleb (2 ^ 31) b h), mod-eq_of_lt h) refl

-- ---- what the bits below 7F800000 stand for
subnormal : (t : ℕ) → of_fields binary32 false 0 t ≡ odd 24 false t 0 149
unfolding of_fields
subnormal t = refl

normal : (t x : ℕ) → suc x < 255 → of_fields binary32 false (suc x) t ≡ odd 24 false (2 ^ 23 + t) x 149
unfolding of_fields
normal t x h =
    cond_no (eqb (suc x) 255) (cond (eqb t 0) (inf false) nan) (odd 24 false (2 ^ 23 + t) x 149)
    (not_T (eqb (suc x) 255) (λ u. omega (arith, eqb→eq (suc x) 255 u)))

normal_value : (x t : ℕ) → 0 < x → x < 255 → HasValue (of_fields binary32 false x t) false ((2 ^ 23 + t) * 2 ^ (x - 1)) (2 ^ 149)
normal_value zero t l h = absurd (omega arith)
normal_value (suc x) t l h =
    let e : suc x - 1 ≡ x = omega arith in
    rw (normal t x h, e) (odd_sign 24 false (2 ^ 23 + t) x 149)

-- the float of such a pattern has the value that its units say
pub bits_value : (b : ℕ) → b < 0x7f80_0000 → HasValue (of_bits binary32 b) false (units_of b) (2 ^ 149)
bits_value b h = go (dec_lt b (2 ^ 23))
  where
    go : Dec (b < 2 ^ 23) → HasValue (of_bits binary32 b) false (units_of b) (2 ^ 149)
    go (yes l) =
        let f : b / 2 ^ 23 ≡ 0 = omega arith in
        let t : b % 2 ^ 23 ≡ b = omega arith in
        let one : b * 2 ^ 0 ≡ b = mul-one b in
        rw (units_subnormal b l, sign_clear b (omega arith), f, t, subnormal b) (rw one at (odd_sign 24 false b 0 149))
    go (no g) =
        rw (units_normal b (omega arith), sign_clear b (omega arith)) (normal_value (b / 2 ^ 23) (b % 2 ^ 23) (omega arith) (omega arith))

-- ---- the bits of a value that is finite with the sign clear
odd_negative : (d q k l : ℕ) → T (unsigned (odd d true q k l)) → ⊥
unfolding odd
odd_negative d zero k l p = p
odd_negative d (suc q) k l p = p

negative : (x t : ℕ) → T (unsigned (of_fields binary32 true x t)) → ⊥
unfolding of_fields
negative zero t p = odd_negative 24 t 0 149 p
negative (suc x) t p = go (eqb (suc x) 255) (eqb t 0) p
  where
    go : (a b : Bool) → T (unsigned (cond a (cond b (inf true) nan) (odd 24 true (2 ^ 23 + t) x 149))) → ⊥
    go true true q = q
    go true false q = q
    go false b q = odd_negative 24 (2 ^ 23 + t) x 149 q

no_number : (t : ℕ) → T (unsigned (of_fields binary32 false 255 t)) → ⊥
unfolding of_fields
no_number t p = go (eqb t 0) p
  where
    go : (b : Bool) → T (unsigned (cond b (inf false) nan)) → ⊥
    go true q = q
    go false q = q

-- a finite float with the sign clear has a pattern below that of infinity
pub unsigned_bits : (x : Float) → T (fits binary32 x) → T (unsigned x) → to_bits binary32 x < 0x7f80_0000
unsigned_bits x h p = go (dec_lt b (2 ^ 31)) (dec_lt b 0x7f80_0000)
  where
    b : ℕ
    b = to_bits binary32 x

    back : T (unsigned (of_bits binary32 b))
    back = rw (of_bits-to_bits binary32 x h) p

    go : Dec (b < 2 ^ 31) → Dec (b < 0x7f80_0000) → b < 0x7f80_0000
    go s (yes l) = l
    go (yes s) (no g) =
        let f : b / 2 ^ 23 ≡ 255 = omega arith in
        absurd (no_number (b % 2 ^ 23) (rw (sign_clear b s, f) at back))
    go (no s) (no g) =
        absurd (negative (b % 2 ^ 31 / 2 ^ 23) (b % 2 ^ 23) (rw (of_bits_is b, is_true (leb (2 ^ 31) b) (le→leb (2 ^ 31) b (omega arith))) at back))

-- ---- and they are no NaN's
value_is_number : (x : Float) (a c : ℕ) → HasValue x false a c → T (not (is_nan x))
unfolding is_nan
value_is_number (fin s m e) a c h = tt
value_is_number nan a c h = elim h [ ]
value_is_number (inf _) a c h = elim h [ ]

-- no pattern below that of infinity is a NaN's
pub bits_are_number : (b : ℕ) → b < 0x7f80_0000 → T (not (nan_bits binary32 b))
bits_are_number b h = rw (nan_bits_is binary32 b) (value_is_number (of_bits binary32 b) (units_of b) (2 ^ 149) (bits_value b h))

-- a finite float with the sign clear is no NaN
pub unsigned_is_number : (x : Float) → T (unsigned x) → T (not (is_nan x))
unfolding is_nan
unsigned_is_number (fin s m e) p = tt
unsigned_is_number nan p = elim p [ ]
unsigned_is_number (inf _) p = elim p [ ]

-- ---- which floats have a root
-- a number that has a root and is no zero has the sign clear
pub unsigned_of : (x : Float) → T (fits binary32 x) → T (rootable x) → T (not (eq x (fin false 0 (pos 0)))) → T (unsigned x)
unfolding eq
unsigned_of (fin false m e) h r n = tt
unsigned_of (fin true zero e) h r n = absurd (rw (zero_exponent binary32 true e h) at n)
unsigned_of (fin true (suc m) e) h r n = absurd (omega (arith, eqb→eq (suc m) 0 r))
unsigned_of nan h r n = elim r [ ]
unsigned_of (inf _) h r n = elim r [ ]

-- what compares equal to zero, -0 too, has magnitude zero
pub zero_is_none : (x : Float) → T (eq x (fin false 0 (pos 0))) → num x ≡ 0
unfolding eq
zero_is_none (fin s m e) h =
    let a = m * up e * 1 in
    let b = 0 * down e in
    omega (arith, eqb→eq a b (and_l (eqb a b) (beq s false || eqb a 0) h))
zero_is_none nan h = elim h [ ]
zero_is_none (inf _) h = elim h [ ]
