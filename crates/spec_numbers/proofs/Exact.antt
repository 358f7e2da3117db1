-- A float that fits its format rounds to itself. So x + 0 is x, but for -0, which becomes +0;
-- and x - x compares equal with itself where x is finite, and only there: code tests by that whether a number is finite.
use mathlib.Core.Path.{◌≡◌, refl, ap, subst}
use mathlib.Core.Bool.{Bool, true, false}
use Prim.Native.Nat.{ℕ, zero, suc, ◌+◌, ◌-◌, ◌*◌, ◌^◌, ◌≤◌, zero-le}
use native.Mathlib.Nat.{lt_of_not-le, not-le_of_lt, add-sub_of_le, mul-lt-mul_of_pos_right, mul_assoc, mul_comm, mul_left_comm, mul-one, mul-pos, zero-lt-suc, zero-mul, add-zero, sub-zero}
use native.Mathlib.Decide.{dec_le}
use native.Mathlib.Omega.{arith}
use lib.IntN.{ℤ, pos}
use lib.Dec.{T, ltb, lt→ltb}
use lib.Arith.{le→nltb}
use lib.Pow.{pow-add, pow_pos, pow-lt}
use lib.Ieee.{Float, nan, inf, fin, Format, binary32, binary64, emax, low, up, down, round, add, sub, eq, fits}
use lib.Ieee.Fits.{up_pos, down_pos, round-fits}
use lib.Ieee.Bits.{is_true, is_false}
use lib.Ieee.Exact.{HasValue, round_exact}
use lib.Ieee.Scale.{finite}
use Rattle.spec_numbers.specs.Values.{zero as +0, plus_zero}
use Rattle.spec_numbers.proofs.Difference.{difference_with_itself}
use Rattle.spec_numbers.proofs.Unique.{raised, sunk, up_is, down_is, Normal, normal, zero_exponent, unique_finite}

-- ---- a float that fits rounds to itself
pow_reflects : (a b : ℕ) → 2 ^ a ≤ 2 ^ b → a ≤ b
pow_reflects a b h = go (dec_le a b)
  where
    go : Dec (a ≤ b) → a ≤ b
    go (yes p) = p
    go (no n) = absurd (not-le_of_lt (pow-lt (lt_of_not-le n)) h)

kept_whole : (f : Format) (s : Bool) (m : ℕ) (e : ℤ) → Normal f m e → HasValue (round f s (m * up e) (down e)) s (m * up e) (down e)
kept_whole f s m e n =
    let spare = low f - sunk e in
    let w = 2 ^ spare in
    let d : down e * w ≡ 2 ^ low f =
    rw (down_is e, ← pow-add 2 (sunk e) spare) (ap (λ (x : ℕ). 2 ^ x) (add-sub_of_le (pow_reflects (sunk e) (low f) (rw (down_is e) at n.deep)))) in
    let u : 2 ^ (raised e + spare) ≡ up e * w = rw (up_is e) (pow-add 2 (raised e) spare) in
    round_exact f s (m * up e) (down e) m (raised e + spare) (down_pos e) n.digits
    (rw (u, pow-add 2 (low f) (suc (emax f)), ← d) (omega (arith, mul-lt-mul_of_pos_right n.high (pow_pos spare))))
    (rw (u, ← d) (simp (mul_assoc, mul_comm, mul_left_comm)))

-- what has the value of a float that fits, and its sign, is that float
by_value : (f : Format) (y : Float) (s : Bool) (m : ℕ) (e : ℤ) → T (fits f y) → T (fits f (fin s m e)) → HasValue y s (m * up e) (down e) → y ≡ fin s m e
by_value f (fin t n d) s m e h k v =
    subst (λ (u : Bool). T (fits f (fin u m e)) → fin t n d ≡ fin u m e) v.0 (λ k'. unique_finite f t n d m e h k' v.1) k
by_value f nan s m e h k v = elim v [ ]
by_value f (inf _) s m e h k v = elim v [ ]

-- rounding does not change what the format holds exactly
pub rounds_to_itself : (f : Format) (s : Bool) (m : ℕ) (e : ℤ) → T (fits f (fin s (suc m) e)) → round f s (suc m * up e) (down e) ≡ fin s (suc m) e
rounds_to_itself f s m e h =
    by_value f (round f s (suc m * up e) (down e)) s (suc m) e (round-fits f s (suc m * up e) (down e)) h (kept_whole f s (suc m) e (normal f s m e h))

-- ---- x + 0
zero_plus_zero : (f : Format) (s : Bool) → add f (fin s 0 (pos 0)) +0 ≡ +0
unfolding add
zero_plus_zero binary32 false = refl
zero_plus_zero binary32 true = refl
zero_plus_zero binary64 false = refl
zero_plus_zero binary64 true = refl

-- adding zero changes -0 alone: coordinates are read by this addition
pub plus_zero_lem : (f : Format) (x : Float) → T (fits f x) → add f x +0 ≡ plus_zero x
unfolding add
plus_zero_lem f nan h = refl
plus_zero_lem f (inf s) h = refl
plus_zero_lem f (fin s zero e) h = rw (zero_exponent f s e h) (zero_plus_zero f s)
plus_zero_lem f (fin false (suc m) e) h = simp (mul-one, zero-mul, add-zero) (rounds_to_itself f false m e h)
plus_zero_lem f (fin true (suc m) e) h =
    let a = suc m * up e in
    let none_below : ltb a 0 ≡ false = is_false (ltb a 0) (le→nltb a 0 zero-le) in
    let above : ltb 0 a ≡ true = is_true (ltb 0 a) (lt→ltb 0 a (mul-pos (zero-lt-suc m) (up_pos e))) in
    simp (mul-one, zero-mul, sub-zero) (rw (none_below, above) (rounds_to_itself f true m e h))

-- ---- x - x
-- the difference of a number with itself is a number exactly where the number is finite
pub difference_tells_finite : (f : Format) (x : Float) → eq (sub f x x) (sub f x x) ≡ finite x
unfolding sub eq
difference_tells_finite f nan = refl
difference_tells_finite f (inf true) = refl
difference_tells_finite f (inf false) = refl
difference_tells_finite f (fin s m e) = rw (difference_with_itself f (fin s m e) tt)
