-- Two floats that fit one format, are equal in value and have one sign are the same data: comparisons by value then settle every bit.
use mathlib.Core.Path.{◌≡◌, refl, sym, ap, ◌∙◌, subst}
use mathlib.Core.Bool.{Bool, true, false, not, ◌&&◌, ◌||◌, beq}
use Prim.Native.Nat.{ℕ, zero, suc, ◌+◌, ◌*◌, ◌%◌, ◌^◌, ◌≤◌, ◌<◌}
use native.Mathlib.Nat.{mul_assoc, mul-one, mul-pos, zero-lt-suc, pow-suc, le-mul_of_pos_right, zero-mul, one-mul}
use native.Mathlib.Omega.{arith}
use lib.IntN.{ℤ, pos, negsuc}
use lib.Dec.{T, T_not, leb, ltb, eqb, eqb→eq, ltb→lt, leb→le}
use lib.Pow.{pow-add, pow_pos}
use lib.Ieee.{Float, inf, fin, Format, prec, emax, low, up, down, level, eq, fits, nan}
use lib.Ieee.Fits.{and_i, and_l, and_r, eq→eqb, down_pos, up_pos}
use Rattle.spec_numbers.specs.Values.{zero as +0, negative}
use Rattle.spec_numbers.proofs.Tests.{or_r}

-- ---- an odd number times a power of two shows both
odd_power : (m n a b : ℕ) → m % 2 ≡ 1 → n % 2 ≡ 1 → m * 2 ^ a ≡ n * 2 ^ b → (m ≡ n) × (a ≡ b)
odd_power m n zero zero o p h = omega arith
odd_power m n zero (suc b) o p h = omega (arith, rw pow-suc at h)
odd_power m n (suc a) zero o p h = omega (arith, rw pow-suc at h)
odd_power m n (suc a) (suc b) o p h =
    let r = odd_power m n a b o p (omega (arith, simp pow-suc at h)) in
    (r.0, ap suc r.1)

-- 2 ^ e is 2 ^ raised e / 2 ^ sunk e
abbrev pub raised : ℤ → ℕ
raised (pos k) = k
raised (negsuc k) = 0

abbrev pub sunk : ℤ → ℕ
sunk (pos k) = 0
sunk (negsuc k) = suc k

-- the factor that an exponent gives the numerator is a power of two
pub up_is : (e : ℤ) → up e ≡ 2 ^ raised e
up_is (pos k) = refl
up_is (negsuc k) = refl

-- the factor that an exponent gives the denominator is a power of two
pub down_is : (e : ℤ) → down e ≡ 2 ^ sunk e
down_is (pos k) = refl
down_is (negsuc k) = refl

same_exponent : (e d : ℤ) → raised e + sunk d ≡ raised d + sunk e → e ≡ d
same_exponent (pos a) (pos b) h = ap pos (omega arith)
same_exponent (pos a) (negsuc b) h = absurd (omega arith)
same_exponent (negsuc a) (pos b) h = absurd (omega arith)
same_exponent (negsuc a) (negsuc b) h = ap negsuc (omega arith)

odd_unique : (m : ℕ) (e : ℤ) (n : ℕ) (d : ℤ) → m % 2 ≡ 1 → n % 2 ≡ 1 → m * up e * down d ≡ n * up d * down e → (m ≡ n) × (e ≡ d)
odd_unique m e n d o p h =
    let r = odd_power m n (raised e + sunk d) (raised d + sunk e) o p (simp (pow-add, ← up_is e, ← up_is d, ← down_is e, ← down_is d) (simp mul_assoc at h)) in
    (r.0, same_exponent e d r.1)

-- ---- what it is to fit: zero has the exponent 0, and any other m is odd, has the format's digits, and is in its range
-- a zero that fits a format has the exponent 0: there is one +0 and one -0
pub zero_exponent : (f : Format) (s : Bool) (e : ℤ) → T (fits f (fin s zero e)) → e ≡ pos 0
unfolding fits
zero_exponent f s (pos zero) h = refl
zero_exponent f s (pos (suc k)) h = absurd (omega (arith, pow_pos k, simp (pow-suc, mul-one) at (eqb→eq (2 ^ suc k * 1) 1 h)))
zero_exponent f s (negsuc k) h = absurd (omega (arith, pow_pos k, simp (pow-suc, one-mul) at (eqb→eq (1 * 2 ^ suc k) 1 h)))

-- what the data of a float other than zero obeys: an odd m within the format's digits, and an exponent in its range
pub record Normal (f : Format) (m : ℕ) (e : ℤ) : Type 0 where
  pub is_odd : m % 2 ≡ 1
  pub digits : m < 2 ^ prec f
  pub deep : down e ≤ 2 ^ low f
  pub high : m * up e < 2 ^ suc (emax f) * down e

-- every float of the format but the zeros obeys it
pub normal : (f : Format) (s : Bool) (m : ℕ) (e : ℤ) → T (fits f (fin s (suc m) e)) → Normal f (suc m) e
unfolding fits
normal f s m e h =
    let a = eqb (suc m % 2) 1 in
    let b = ltb (suc m) (2 ^ prec f) in
    let c = leb (down e) (2 ^ low f) in
    let d = ltb (suc m * up e) (2 ^ suc (emax f) * down e) in
    record {
      is_odd = eqb→eq (suc m % 2) 1 (and_l a b (and_l (a && b) c (and_l (a && b && c) d h)));
      digits = ltb→lt (suc m) (2 ^ prec f) (and_r a b (and_l (a && b) c (and_l (a && b && c) d h)));
      deep = leb→le (down e) (2 ^ low f) (and_r (a && b) c (and_l (a && b && c) d h));
      high = ltb→lt (suc m * up e) (2 ^ suc (emax f) * down e) (and_r (a && b && c) d h);
    }

not_zero : (m u d : ℕ) → 0 < u → 0 < d → suc m * u * d ≡ 0 → ⊥
not_zero m u d h k e = omega (arith, mul-pos (mul-pos (zero-lt-suc m) h) k)

-- ---- one value, one sign, one float
-- finite floats of one value and one sign are the same data
pub unique_finite : (f : Format) (s : Bool) (m : ℕ) (e : ℤ) (n : ℕ) (d : ℤ) → T (fits f (fin s m e)) → T (fits f (fin s n d))
    → m * up e * down d ≡ n * up d * down e → fin s m e ≡ fin s n d
unique_finite f s zero e zero d h k v = ap (fin s zero) (zero_exponent f s e h ∙ sym (zero_exponent f s d k))
unique_finite f s zero e (suc n) d h k v = absurd (not_zero n (up d) (down e) (up_pos d) (down_pos e) (sym v ∙ simp zero-mul))
unique_finite f s (suc m) e zero d h k v = absurd (not_zero m (up e) (down d) (up_pos e) (down_pos d) (v ∙ simp zero-mul))
unique_finite f s (suc m) e (suc n) d h k v =
    let r = odd_unique (suc m) e (suc n) d (normal f s m e h).is_odd (normal f s n d k).is_odd v in
    λ i. fin s (r.0 i) (r.1 i)

-- the same with infinities: floats that compare equal and have one sign are the same data
pub unique : (f : Format) (x y : Float) → T (fits f x) → T (fits f y) → T (eq x y) → negative x ≡ negative y → x ≡ y
unfolding eq
unique f (inf s) (inf t) h k e r = ap inf r
unique f (fin s m e) (fin t n d) h k v r =
    subst (λ (u : Bool). T (fits f (fin u n d)) → fin s m e ≡ fin u n d) r
    (λ k'. unique_finite f s m e n d h k'
    (eqb→eq (m * up e * down d) (n * up d * down e) (and_l (eqb (m * up e * down d) (n * up d * down e)) (beq s t || eqb (m * up e * down d) 0) v))) k
unique f nan y h k e r = elim e [ ]
unique f (inf s) nan h k e r = elim e [ ]
unique f (inf s) (fin t n d) h k e r = elim e [ ]
unique f (fin s m e) nan h k v r = elim v [ ]
unique f (fin s m e) (inf t) h k v r = elim v [ ]

-- unlike signs are only those of zeros
agree : (s : Bool) (a : ℕ) (t : Bool) (b : ℕ) → T (level s a t b) → (a ≡ 0 → ⊥) → s ≡ t
agree false a false b h n = refl
agree false a true b h n = absurd (n (eqb→eq a 0 (and_r (eqb a b) (eqb a 0) h)))
agree true a false b h n = absurd (n (eqb→eq a 0 (and_r (eqb a b) (eqb a 0) h)))
agree true a true b h n = refl

cancel : (a d : ℕ) → 0 < d → a * d ≡ 0 → a ≡ 0
cancel a d D h = omega (arith, le-mul_of_pos_right a D)

zero_equal : (s : Bool) (m : ℕ) (e : ℤ) → m * up e ≡ 0 → T (eq (fin s m e) +0)
unfolding eq
zero_equal s m e z =
    let a = m * up e * 1 in
    let b = 0 * down e in
    and_i (eqb a b) (beq s false || eqb a 0) (eq→eqb {a = a} {b = b} (omega arith))
    (or_r (beq s false) (eqb a 0) (eq→eqb {a = a} {b = 0} (omega arith)))

-- floats that compare equal have one sign, but for zeros
pub signs_agree : (x y : Float) → T (eq x y) → T (not (eq x +0)) → negative x ≡ negative y
unfolding eq
signs_agree (inf true) (inf true) e n = refl
signs_agree (inf false) (inf false) e n = refl
signs_agree (fin s m e) (fin t n d) v z =
    agree s (m * up e * down d) t (n * up d * down e) v (λ a. T_not (eq (fin s m e) +0) z (zero_equal s m e (cancel (m * up e) (down d) (down_pos d) a)))
signs_agree nan y e n = elim e [ ]
signs_agree (inf false) nan e n = elim e [ ]
signs_agree (inf false) (inf true) e n = elim e [ ]
signs_agree (inf false) (fin t _ d) e n = elim e [ ]
signs_agree (inf true) nan e n = elim e [ ]
signs_agree (inf true) (inf false) e n = elim e [ ]
signs_agree (inf true) (fin t _ d) e n = elim e [ ]
signs_agree (fin s m e) nan v z = elim v [ ]
signs_agree (fin s m e) (inf _) v z = elim v [ ]
