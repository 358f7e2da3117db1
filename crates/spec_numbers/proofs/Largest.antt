-- No finite number of a format is above its largest: the bounds of centres begin with it.
use mathlib.Core.Path.{◌≡◌, sym, ap, ◌∙◌}
use mathlib.Core.Bool.{true, false}
use Prim.Native.Nat.{ℕ, zero, suc, ◌*◌, ◌-◌, ◌^◌, ◌≤◌, ◌<◌}
use native.Mathlib.Nat.{mul-le-mul, mul-le-mul_right, lt_of_mul-lt-mul_right, le-mul_of_pos_right, add-sub_of_le, sub-add_cancel, mul_assoc}
use native.Mathlib.Decide.{dec_lt}
use native.Mathlib.Omega.{arith}
use lib.IntN.{ℤ, pos, negsuc}
use lib.Dec.{T}
use lib.Pow.{pow-add, pow_pos, pow_mono}
use lib.Ieee.{Float, fin, Format, prec, emax, up, down, le, fits, inf, nan}
use lib.Ieee.Fits.{reach}
use lib.Ieee.Scale.{finite}
use Rattle.spec_numbers.specs.Values.{largest}
use Rattle.spec_numbers.proofs.Fraction.{compared}
use Rattle.spec_numbers.proofs.Unique.{normal}

-- the largest is `most` times 2 ^ `top`
module _ (f : Format) where
  abbrev most : ℕ
  most = 2 ^ prec f - 1

  abbrev top : ℕ
  top = suc (emax f) - prec f

  overflow : 2 ^ suc (emax f) ≡ 2 ^ prec f * 2 ^ top
  overflow = ap (λ (n : ℕ). 2 ^ n) (sym (add-sub_of_le (reach f))) ∙ pow-add 2 (prec f) top

  raised : (m k : ℕ) → m < 2 ^ prec f → m * 2 ^ k < 2 ^ suc (emax f) * 1 → m * 2 ^ k ≤ most * 2 ^ top
  raised m k digits high = go (dec_lt k top)
    where
      go : Dec (k < top) → m * 2 ^ k ≤ most * 2 ^ top
      go (yes h) = mul-le-mul (omega arith) (pow_mono (omega arith))
      go (no h) =
          let split : 2 ^ k ≡ 2 ^ (k - top) * 2 ^ top = ap (λ (n : ℕ). 2 ^ n) (sym (sub-add_cancel {n = k} {m = top} (omega arith)))
          ∙ pow-add 2 (k - top) top in
          let spread : m * 2 ^ k ≡ m * 2 ^ (k - top) * 2 ^ top = ap (λ (n : ℕ). m * n) split ∙ sym (mul_assoc m (2 ^ (k - top)) (2 ^ top)) in
          let small : m * 2 ^ (k - top) < 2 ^ prec f = lt_of_mul-lt-mul_right (2 ^ top) (omega (arith, spread, overflow)) in
          rw spread (mul-le-mul_right (2 ^ top) (omega arith))

  bounded : (m : ℕ) (e : ℤ) → m < 2 ^ prec f → m * up e < 2 ^ suc (emax f) * down e → m * up e ≤ most * 2 ^ top * down e
  bounded m (pos k) digits high = omega (arith, raised m k digits high)
  bounded m (negsuc k) digits high = omega (arith, le-mul_of_pos_right most (pow_pos top), le-mul_of_pos_right (most * 2 ^ top) (pow_pos (suc k)))

  -- a minimum that begins with the largest number is the minimum of the finite numbers that it takes in
  pub at_most_largest : (x : Float) → T (fits f x) → T (finite x) → T (le x (largest f))
  at_most_largest (fin true m e) h k = (compared (fin true m e) (largest f) tt tt).at_most→le (omega arith)
  at_most_largest (fin false zero e) h k = (compared (fin false 0 e) (largest f) tt tt).at_most→le (omega arith)
  at_most_largest (fin false (suc m) e) h k =
      let n = normal f false m e h in
      (compared (fin false (suc m) e) (largest f) tt tt).at_most→le (omega (arith, bounded (suc m) e n.digits n.high))
  at_most_largest nan h k = elim k [ ]
  at_most_largest (inf _) h k = elim k [ ]
