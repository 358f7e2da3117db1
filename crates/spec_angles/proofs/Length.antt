-- No coordinate of a vector is more than twice its computed length, unless that is zero: also where squares are subnormal or underflow.
-- Over fractions: s is the squared length, l its root, and x a coordinate whose square s is not below.
use mathlib.Core.Path.{◌≡◌, refl, sym, ap, ◌∙◌}
use mathlib.Core.Bool.{false}
use mathlib.Core.Logic.{◌⊎◌, inl, inr}
use Prim.Native.Nat.{ℕ, suc, ◌+◌, ◌-◌, ◌*◌, ◌/◌, ◌^◌, ◌≤◌, ◌<◌}
use native.Mathlib.Nat.{mul-pos, one-mul, mul-le-mul_right, mul-lt-mul_of_pos_right, lt_of_mul-lt-mul_right, le_of_mul-le-mul_right, eq-zero-or-pos}
use native.Mathlib.Decide.{dec_lt, dec_le}
use native.Mathlib.Omega.{arith}
use lib.Dec.{T}
use lib.Pow.{pow_pos, pow_mono, pow-lt}
use lib.Ieee.{Float, Format, emax, low, size, round, fits}
use lib.Ieee.Digits.{size-lt, size_reaches}
use lib.Ieee.Fits.{round-fits}
use lib.Ieee.Exact.{HasValue, round_exact}
use lib.Ieee.Positive.{num, den, den_pos, value→cross}
use Rattle.spec_numbers.proofs.Within.{two_digits, value_is_unsigned}
use Rattle.spec_numbers.specs.Values.{zero as +0, unsigned}
use Rattle.spec_angles.specs.Root.{square, IsRoot}
use Rattle.spec_angles.proofs.Powers.{square_mono, pow_reflects, pow_sum}
use Rattle.spec_angles.proofs.RootLaw.{units_of, lt_holds, root_of_zero, root_unique}

-- ---- powers of two as values: 2 ^ v units
-- a power of two in the format's range is a value of it, so that a length can be compared with it
pub two_to : (f : Format) (v : ℕ) → v < low f + suc (emax f) → HasValue (round f false (2 ^ v) (2 ^ low f)) false (2 ^ v) (2 ^ low f)
two_to f v h =
    round_exact f false (2 ^ v) (2 ^ low f) 1 v (pow_pos (low f)) (two_digits f) (rw (one-mul (2 ^ v)) (pow-lt h)) (rw (one-mul (2 ^ v)))

-- where l < y and √s < (l + y) / 2, s is below y²
below_square : (ns ds nl dl ny dy : ℕ) → 0 < dl → nl * dy < ny * dl → 4 * ns * square (dl * dy) < square (nl * dy + ny * dl) * ds
    → ns * (dy * dy) < ny * ny * ds
below_square ns ds nl dl ny dy D h b =
    let m : square (nl * dy + ny * dl) * ds ≤ square (2 * (ny * dl)) * ds = mul-le-mul_right ds (square_mono (omega arith)) in
    lt_of_mul-lt-mul_right (dl * dl) (omega arith)

-- and in units of 1 / L, where y is W units
in_units_lem : (ns ds ny dy W L : ℕ) → 0 < dy → ny * L ≡ W * dy → ns * (dy * dy) < ny * ny * ds → 0 < L → ns * (L * L) < W * W * ds
in_units_lem ns ds ny dy W L D e h p =
    let q : ny * L * (ny * L) ≡ W * dy * (W * dy) = ap (λ (z : ℕ). z * z) e in
    let k : ns * (dy * dy) * (L * L) < ny * ny * ds * (L * L) = mul-lt-mul_of_pos_right h (mul-pos p p) in
    let q' : ny * L * (ny * L) * ds ≡ W * dy * (W * dy) * ds = ap (λ (z : ℕ). z * ds) q in
    lt_of_mul-lt-mul_right (dy * dy) (omega arith)

-- l is 2 ^ v units at least, or s is below the square of that; y is 2 ^ v units
abbrev AtLeastOr : (f : Format) (s l : Float) (v : ℕ) → Type 0
AtLeastOr f s l v = (2 ^ v * den l ≤ num l * 2 ^ low f) ⊎ (num s * (2 ^ low f * 2 ^ low f) < 2 ^ v * 2 ^ v * den s)

by_value : (f : Format) (s l y : Float) (v : ℕ) → IsRoot f s l → T (fits f y) → HasValue y false (2 ^ v) (2 ^ low f) → AtLeastOr f s l v
by_value f s l y v R F h = go (dec_lt (num l * den y) (num y * den l))
  where
    is : num y * 2 ^ low f ≡ 2 ^ v * den y
    is = value→cross y (2 ^ v) (2 ^ low f) h

    U : T (unsigned y)
    U = value_is_unsigned y (2 ^ v) (2 ^ low f) h

    go : Dec (num l * den y < num y * den l) → AtLeastOr f s l v
    go (yes b) =
        inr
        (in_units_lem (num s) (den s) (num y) (den y) (2 ^ v) (2 ^ low f) (den_pos y) is
        (below_square (num s) (den s) (num l) (den l) (num y) (den y) (den_pos l) b (R.above y F U (lt_holds l y R.is_unsigned U b)))
        (pow_pos (low f)))
    go (no n) =
        let k : num y * den l ≤ num l * den y = omega arith in
        inl (le_of_mul-le-mul_right (omega (arith, mul-le-mul_right (2 ^ low f) k, ap (λ (z : ℕ). z * den l) is)) (den_pos y))

at_least_or : (f : Format) (s l : Float) (v : ℕ) → IsRoot f s l → v < low f + suc (emax f) → AtLeastOr f s l v
at_least_or f s l v R h = by_value f s l (round f false (2 ^ v) (2 ^ low f)) v R (round-fits f false (2 ^ v) (2 ^ low f)) (two_to f v h)

module _ (f : Format) (s l : Float) (S : T (fits f s)) (U : T (unsigned s)) (R : IsRoot f s l) (some : 0 < num l) where
  -- ---- a length that is not zero is 2 ^ (low / 2) units at least
  not_below_one : num s * 2 ^ low f < den s → ⊥
  not_below_one h =
      let u = units_of f s S U in
      let N = u.digits * 2 ^ u.places in
      let few : N < 1 = lt_of_mul-lt-mul_right (den s) (omega (arith, u.is)) in
      let z : N ≡ 0 = omega arith in
      let n : num s ≡ 0 =
      elim (eq-zero-or-pos (num s)) [ inl e ↦ e | inr p ↦ absurd (omega (arith, mul-pos p (pow_pos (low f)), u.is, ap (λ (x : ℕ). x * den s) z)) ] in
      let e : num l ≡ 0 = ap num (root_unique f s l +0 R (root_of_zero f s n)) in
      omega arith

  half_room : low f / 2 < low f + suc (emax f)
  half_room = omega arith

  half_at_least : 2 ^ (low f / 2) * den l ≤ num l * 2 ^ low f
  half_at_least = elim (at_least_or f s l (low f / 2) R half_room) [
    | inl k ↦ k
    | inr b ↦
        let h = low f / 2 in
        let m : 2 ^ h * 2 ^ h ≤ 2 ^ low f = rw (pow_sum h h (h + h) refl) (pow_mono (omega arith)) in
        absurd (not_below_one (lt_of_mul-lt-mul_right (2 ^ low f) (omega (arith, mul-le-mul_right (den s) m))))
  ]

  -- ---- M / D is a coordinate's magnitude, N units and 2 ^ c at most; where its square is 2 ^ k units at least, s is
  module _ (M D N c : ℕ) (P : 0 < D) (is : M * 2 ^ low f ≡ N * D) (bounded : M ≤ 2 ^ c * D) (room : c + c ≤ emax f)
      (grows : (k : ℕ) → k < low f + suc (emax f) → 2 ^ k * (D * D) ≤ M * M * 2 ^ low f → 2 ^ k * den s ≤ num s * 2 ^ low f) where
    twice : (w v : ℕ) → w ≤ v → N < 2 * 2 ^ w → 2 ^ v * den l ≤ num l * 2 ^ low f → M * den l ≤ 2 * num l * D
    twice w v h n k =
        let m : N ≤ 2 * 2 ^ v = omega (arith, pow_mono {i = w} {j = v} h) in
        le_of_mul-le-mul_right (omega (arith, ap (λ (z : ℕ). z * den l) is, mul-le-mul_right (D * den l) m, mul-le-mul_right D k)) (pow_pos (low f))

    -- N has its highest digit at w
    module _ (w : ℕ) (low-side : 2 ^ w ≤ N) (high-side : N < 2 * 2 ^ w) where
      reached : 2 ^ w * D ≤ M * 2 ^ low f
      reached = omega (arith, mul-le-mul_right D low-side, is)

      few : w ≤ c + low f
      few =
          let m : 2 ^ w ≤ 2 ^ c * 2 ^ low f = le_of_mul-le-mul_right (omega (arith, reached, mul-le-mul_right (2 ^ low f) bounded)) P in
          pow_reflects (rw (pow_sum c (low f) (c + low f) refl) at m)

      large : low f ≤ w + w → 2 ^ w * den l ≤ num l * 2 ^ low f
      large h = elim (at_least_or f s l w R (omega (arith, few))) [
        | inl k ↦ k
        | inr b ↦
            let k = w + w - low f in
            let e : 2 ^ k * 2 ^ low f ≡ 2 ^ w * 2 ^ w = pow_sum k (low f) (w + w) (omega arith) ∙ sym (pow_sum w w (w + w) refl) in
            let g : 2 ^ k * (D * D) ≤ M * M * 2 ^ low f =
            le_of_mul-le-mul_right (omega (arith, square_mono reached, ap (λ (z : ℕ). z * (D * D)) e)) (pow_pos (low f)) in
            let r = grows k (omega (arith, few)) g in
            absurd (omega (arith, mul-le-mul_right (2 ^ low f) r, ap (λ (z : ℕ). z * den s) e))
      ]

      by_size : M * den l ≤ 2 * num l * D
      by_size = go (dec_le (low f) (w + w))
        where
          go : Dec (low f ≤ w + w) → M * den l ≤ 2 * num l * D
          go (yes h) = twice w w (omega arith) high-side (large h)
          go (no n) = twice w (low f / 2) (omega arith) high-side half_at_least

    -- a coordinate is at most twice the computed length, also where squares underflow: a direction is bounded
    pub at_most_twice : M * den l ≤ 2 * num l * D
    at_most_twice = elim (eq-zero-or-pos (size N)) [
      | inl e ↦
          let z : N ≡ 0 = omega (arith, rw e at (size-lt N)) in
          let n : M ≡ 0 = elim (eq-zero-or-pos M) [ inl m ↦ m | inr p ↦ absurd (omega (arith, mul-pos p (pow_pos (low f)), is, ap (λ (x : ℕ). x * D) z)) ] in
          omega (arith, ap (λ (x : ℕ). x * den l) n)
      | inr p ↦ by_size (size N - 1) (size_reaches N (size N - 1) (omega arith)) (omega (arith, size-lt N, pow_sum 1 (size N - 1) (size N) (omega arith)))
    ]
