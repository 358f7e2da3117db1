-- The function `root` is the value nearest the exact root, for every number that has one, in every format (`root_is_nearest`).
use mathlib.Core.Path.{◌≡◌, refl, sym, ap, ◌∙◌}
use mathlib.Core.Bool.{true, false}
use mathlib.Core.Logic.{inl, inr}
use Prim.Native.Nat.{ℕ, suc, ◌+◌, ◌-◌, ◌*◌, ◌/◌, ◌^◌, ◌≤◌, ◌<◌}
use native.Mathlib.Nat.{zero-div, le_trans, le_of_eq, le_of_lt, lt_of_le_of_lt, lt_of_lt_of_le, mul_assoc, mul-div_cancel, mul-pos, mul-le-mul_right, lt_of_mul-lt-mul_right, le_of_mul-le-mul_right, le-mul_of_pos_right, eq-or-lt_of_le, one-mul, zero-mul, eq-zero-or-pos}
use native.Mathlib.Omega.{arith}
use lib.IntN.{pos}
use lib.Dec.{T, eqb→eq, lit≤}
use lib.Pow.{pow-add, pow_pos, pow_mono, pow-lt, shl_lt}
use lib.Ieee.{Float, fin, Format, binary32, binary64, prec, emax, low, size, up, round, fits, inf, nan}
use lib.Ieee.Digits.{size-lt, size-le, size_reaches}
use lib.Ieee.Fits.{round-fits}
use lib.Ieee.Exact.{HasValue, round_exact}
use lib.Ieee.Positive.{num, den, den_pos, value→cross}
use Rattle.spec_numbers.proofs.Within.{two_digits, value_is_unsigned}
use Rattle.spec_numbers.specs.Values.{unsigned}
use Rattle.spec_angles.specs.Root.{IsRoot, rootable, square, nearer, whole_root, root_by, root_in, root, WholeRoot}
use Rattle.spec_angles.proofs.Powers.{square_reflects, pow_sum, pow_lt_reflects}
use Rattle.spec_angles.proofs.WholeRoot.{whole_root_lem, nearer_root, nearer_between}
use Rattle.spec_angles.proofs.Grid.{Rooted, rooted_of}
use Rattle.spec_angles.proofs.RootLaw.{Units, units_of, root_law, root_of_zero}

-- ---- what is used of a format: its least value lies deep enough that a root is never subnormal, and there is an exponent above 0
record Deep (p l e : ℕ) : Type 0 where
  some : 0 < p
  deep : 2 * p ≤ l
  high : 0 < e

deep_format : (f : Format) → Deep (prec f) (low f) (emax f)
deep_format binary32 = record { some = lit≤ tt; deep = lit≤ tt; high = lit≤ tt }
deep_format binary64 = record { some = lit≤ tt; deep = lit≤ tt; high = lit≤ tt }

-- ---- a is n * 4 ^ k, where n has 2 * p or 2 * p - 1 digits
record Written (p l e a k n : ℕ) : Type 0 where
  same : a ≡ n * (2 ^ k * 2 ^ k)
  least : square (2 ^ (p - 1)) ≤ n
  most : n < 2 ^ p * 2 ^ p
  small : p + k < l + suc e

-- ---- a = d * 2 ^ (j + l), for a d of p digits, is so written by the k of `root_in`
module _ (p l e d j a : ℕ) (deep : Deep p l e) (some : 0 < d) (few : d < 2 ^ p) (under : d * 2 ^ j < 2 ^ (l + suc e)) (is : a ≡ d * 2 ^ j * 2 ^ l) where
  -- how many digits a has
  many : l < size a
  many =
      pow_lt_reflects (lt_of_le_of_lt (rw is (le_trans (le_of_eq (sym (one-mul (2 ^ l)))) (mul-le-mul_right (2 ^ l) (mul-pos some (pow_pos j))))) (size-lt a))

  not_more : size a ≤ p + (j + l)
  not_more = size-le a (p + (j + l)) (rw (is, mul_assoc d (2 ^ j) (2 ^ l), pow_sum j l (j + l) refl) (shl_lt p (j + l) few))

  in_range : size a ≤ l + suc e + l
  in_range = size-le a (l + suc e + l) (rw is (shl_lt (l + suc e) l under))

  module _ (k : ℕ) (half : k ≡ (size a + 1) / 2 - p) where
    rest : ℕ
    rest = d * 2 ^ (j + l - (k + k))

    same : a ≡ rest * (2 ^ k * 2 ^ k)
    unfolding rest
    same =
        rw (
          is,
          mul_assoc d (2 ^ j) (2 ^ l),
          pow_sum j l (j + l) refl,
          pow_sum k k (k + k) refl,
          mul_assoc d (2 ^ (j + l - (k + k))) (2 ^ (k + k)),
          pow_sum (j + l - (k + k)) (k + k) (j + l) (omega (arith, not_more, deep)),
        )

    quotient : a / square (2 ^ k) ≡ rest
    quotient = ap (λ (x : ℕ). x / square (2 ^ k)) same ∙ mul-div_cancel rest (mul-pos (pow_pos k) (pow_pos k))

    four : (i : ℕ) → 2 ^ i * 2 ^ i * (2 ^ k * 2 ^ k) ≡ 2 ^ (i + i + (k + k))
    four i = rw (pow_sum i i (i + i) refl, pow_sum k k (k + k) refl, pow_sum (i + i) (k + k) (i + i + (k + k)) refl)

    least : square (2 ^ (p - 1)) ≤ rest
    least =
        le_of_mul-le-mul_right
        (le_trans (le_of_eq (four (p - 1)))
        (le_trans (pow_mono (omega (arith, many, deep)))
        (le_trans (size_reaches a (size a - 1) (omega (arith, many))) (le_of_eq same))))
        (mul-pos (pow_pos k) (pow_pos k))

    most : rest < 2 ^ p * 2 ^ p
    most =
        lt_of_mul-lt-mul_right (2 ^ k * 2 ^ k)
        (lt_of_le_of_lt (le_of_eq (sym same)) (lt_of_lt_of_le (size-lt a) (le_trans (pow_mono (omega (arith, many, deep))) (le_of_eq (sym (four p))))))

    small : p + k < l + suc e
    small = omega (arith, many, in_range, deep)

    written : Written p l e a k (a / square (2 ^ k))
    written = rw quotient record { same = same; least = least; most = most; small = small }

-- ---- the root of n, and the number that it is rounded to
module _ (p l e a k n : ℕ) (w : Written p l e a k n) where
  cut_root : WholeRoot n (whole_root p n)
  cut_root = whole_root_lem p n w.most

  root_least : 2 ^ (p - 1) < whole_root p n + 1
  root_least = square_reflects (lt_of_le_of_lt w.least cut_root.high)

  root_most : whole_root p n < 2 ^ p
  root_most = square_reflects (lt_of_le_of_lt cut_root.low w.most)

  nearest_most : nearer n (whole_root p n) ≤ 2 ^ p
  nearest_most = omega (arith, root_most, (nearer_between n (whole_root p n)).1)

  rooted : Rooted (2 ^ (p - 1)) a (nearer n (whole_root p n)) (2 ^ k)
  rooted =
      rw w.same
      (rooted_of (2 ^ (p - 1)) n (nearer n (whole_root p n)) (2 ^ k) (pow_pos k)
      (omega (arith, root_least, (nearer_between n (whole_root p n)).0))
      w.least
      (nearer_root n (whole_root p n) (omega (arith, root_least, pow_pos (p - 1))) cut_root))

-- ---- q * 2 ^ k units, for a q up to 2 ^ prec, are a value of the format
exact : (f : Format) (q k : ℕ) → q ≤ 2 ^ prec f → prec f + k < low f + suc (emax f)
    → HasValue (round f false (q * 2 ^ k) (2 ^ low f)) false (q * 2 ^ k) (2 ^ low f)
exact f q k h s = elim (eq-or-lt_of_le h) [
  | inl e ↦
      round_exact f false (q * 2 ^ k) (2 ^ low f) 1 (prec f + k) (pow_pos (low f)) (two_digits f) (rw (one-mul (2 ^ (prec f + k))) (pow-lt s))
      (rw (e, one-mul (2 ^ (prec f + k)), pow-add 2 (prec f) k))
  | inr l ↦ round_exact f false (q * 2 ^ k) (2 ^ low f) q k (pow_pos (low f)) l (lt_of_lt_of_le (shl_lt (prec f) k l) (pow_mono (le_of_lt s))) refl
]

by_written : (f : Format) (x : Float) (N k n : ℕ) → num x * 2 ^ low f ≡ N * den x → Written (prec f) (low f) (emax f) (N * 2 ^ low f) k n
    → IsRoot f x (root_by f n k)
unfolding root_by
by_written f x N k n X w =
    let r = nearer n (whole_root (prec f) n) in
    let y = round f false (r * 2 ^ k) (2 ^ low f) in
    let a = N * 2 ^ low f in
    let v : HasValue y false (r * 2 ^ k) (2 ^ low f) = exact f r k (nearest_most (prec f) (low f) (emax f) a k n w) w.small in
    root_law f x y N r k X (value→cross y (r * 2 ^ k) (2 ^ low f) v) (round-fits f false (r * 2 ^ k) (2 ^ low f))
    (value_is_unsigned y (r * 2 ^ k) (2 ^ low f) v)
    (rooted (prec f) (low f) (emax f) a k n w)

root_of_some : (f : Format) (x : Float) (u : Units f x) → 0 < u.digits → IsRoot f x (root f x)
unfolding root root_in
root_of_some f x u some =
    let N = u.digits * 2 ^ u.places in
    let a = N * 2 ^ low f in
    let k = (size a + 1) / 2 - prec f in
    let e : num x * 2 ^ low f / den x ≡ N = ap (λ (z : ℕ). z / den x) u.is ∙ mul-div_cancel N (den_pos x) in
    rw e (by_written f x N k (a / square (2 ^ k)) u.is
    (written (prec f) (low f) (emax f) u.digits u.places a (deep_format f) some u.few u.under refl k refl))

-- ---- the root of zero
none : (f : Format) → root_in f 0 ≡ fin false 0 (pos 0)
unfolding root_in root_by whole_root round
none binary32 = refl
none binary64 = refl

root_of_none : (f : Format) (x : Float) → num x ≡ 0 → IsRoot f x (root f x)
unfolding root
root_of_none f x z = rw (z, zero-mul (2 ^ low f), zero-div (den x), zero-mul (2 ^ low f), none f) (root_of_zero f x z)

no_digits : (a l d w c : ℕ) → 0 < l → a * l ≡ d * w * c → d ≡ 0 → a ≡ 0
no_digits a l d w c L h z = omega (arith, le-mul_of_pos_right a L, simp zero-mul at (rw z at h))

plain_root : (f : Format) (x : Float) → T (fits f x) → T (unsigned x) → IsRoot f x (root f x)
plain_root f x h p =
    let u = units_of f x h p in
    elim (eq-zero-or-pos u.digits) [
      | inl z ↦ root_of_none f x (no_digits (num x) (2 ^ low f) u.digits (2 ^ u.places) (den x) (pow_pos (low f)) u.is z)
      | inr s ↦ root_of_some f x u s
    ]

-- the root is correctly rounded: of all values of the format it is the nearest to the exact root
pub root_is_nearest : (f : Format) (x : Float) → T (fits f x) → T (rootable x) → IsRoot f x (root f x)
root_is_nearest f (fin false m e) h r = plain_root f (fin false m e) h tt
root_is_nearest f (fin true m e) h r = root_of_none f (fin true m e) (ap (λ (z : ℕ). z * up e) (eqb→eq m 0 r) ∙ zero-mul (up e))
root_is_nearest f nan h r = elim r [ ]
root_is_nearest f (inf _) h r = elim r [ ]
