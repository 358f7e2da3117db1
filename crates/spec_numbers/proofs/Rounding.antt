-- Rounding keeps the order, whatever the signs: of two fractions the larger rounds to a float that is no smaller.
-- Subnormal results and overflow to an infinity are included. `Rounded f v r` says that r is the fraction v, rounded once to the format f.
use mathlib.Core.Path.{◌≡◌, refl, sym, ◌∙◌, ap}
use mathlib.Core.Bool.{Bool, true, false, not, cond}
use Prim.Native.Nat.{ℕ, zero, suc, ◌+◌, ◌*◌, ◌^◌, ◌<◌}
use native.Mathlib.Nat.{le-mul_of_pos_right}
use native.Mathlib.Omega.{arith}
use lib.Dec.{T, ltb}
use lib.Pow.{pow_pos}
use lib.Ieee.{Float, inf, fin, Format, binary32, binary64, prec, emax, low, odd, units, round, neg, le, nan}
use lib.Ieee.Fits.{round_is}
use lib.Ieee.Order.{round_mono}
use Rattle.spec_numbers.specs.Values.{zero as +0}
use Rattle.spec_numbers.proofs.Fraction.{Fraction, signed, value, AtMost, compared}
use Rattle.spec_numbers.proofs.Order.{transitive}

-- ---- a negation turns the order round
-- so a law of sums gives one of differences, and a law above zero gives one below
pub neg_reverses : (x y : Float) → T (le x y) → T (le (neg y) (neg x))
unfolding le neg
neg_reverses (inf true) (inf true) h = tt
neg_reverses (inf true) (inf false) h = tt
neg_reverses (inf false) (inf false) h = tt
neg_reverses (inf true) (fin t n d) h = tt
neg_reverses (fin s m e) (inf false) h = tt
neg_reverses (fin s m e) (fin t n d) h =
    (compared (fin (not t) n d) (fin (not s) m e) tt tt).at_most→le (turned s t ((compared (fin s m e) (fin t n d) tt tt).le→at_most h))
  where
    turned : (s t : Bool) → AtMost (value (fin s m e)) (value (fin t n d)) → AtMost (value (fin (not t) n d)) (value (fin (not s) m e))
    turned false false k = omega arith
    turned false true k = omega arith
    turned true false k = omega arith
    turned true true k = omega arith
neg_reverses nan y h = elim h [ ]
neg_reverses (inf false) nan h = elim h [ ]
neg_reverses (inf false) (inf true) h = elim h [ ]
neg_reverses (inf false) (fin t n d) h = elim h [ ]
neg_reverses (inf true) nan h = elim h [ ]
neg_reverses (fin s m e) nan h = elim h [ ]
neg_reverses (fin s m e) (inf true) h = elim h [ ]

-- ---- the sign of what is rounded is only carried along
odd_negated : (d q k l : ℕ) → odd d true q k l ≡ neg (odd d false q k l)
unfolding odd neg
odd_negated d zero k l = refl
odd_negated d (suc q) k l = refl

units_negated : (f : Format) (q k : ℕ) → units f true q k ≡ neg (units f false q k)
unfolding units neg
units_negated f q k = go (ltb (q * 2 ^ k) (2 ^ (low f + suc (emax f))))
  where
    go : (b : Bool) → cond b (odd (suc (prec f)) true q k (low f)) (inf true) ≡ neg (cond b (odd (suc (prec f)) false q k (low f)) (inf false))
    go true = odd_negated (suc (prec f)) q k (low f)
    go false = refl

-- the rounded opposite is the opposite of the rounded: proofs need one sign
pub round_negated : (f : Format) (a c : ℕ) → round f true a c ≡ neg (round f false a c)
round_negated f a c = round_is f true a c ∙ units_negated f _ _ ∙ ap neg (sym (round_is f false a c))

-- ---- zero
-- zero rounds to +0
pub round_zero : (f : Format) → round f false 0 1 ≡ +0
unfolding round
round_zero binary32 = refl
round_zero binary64 = refl

module _ (f : Format) (a c : ℕ) (C : 0 < c) where
  -- a fraction that is not below zero does not round to a float below zero
  pub round_not_below : T (le +0 (round f false a c))
  round_not_below = rw (← round_zero f) (round_mono f 0 1 a c (pow_pos 0) C (omega arith))

  -- a fraction that is not above zero does not round to a float above zero
  pub round_not_above : T (le (round f true a c) +0)
  unfolding neg le
  round_not_above = rw (round_negated f a c) (transitive (neg (round f false a c)) (neg +0) +0 (neg_reverses +0 (round f false a c) round_not_below) tt)

  round_none_below : a ≡ 0 → T (le (round f false a c) +0)
  round_none_below z = rw (← round_zero f) (round_mono f a c 0 1 C (pow_pos 0) (omega arith))

  round_none_above : a ≡ 0 → T (le +0 (round f true a c))
  unfolding neg le
  round_none_above z = rw (round_negated f a c) (transitive +0 (neg +0) (neg (round f false a c)) tt (neg_reverses (round f false a c) +0 (round_none_below z)))

-- ---- the law
signed_keeps_order : (f : Format) (s : Bool) (a c : ℕ) (t : Bool) (b d : ℕ) → 0 < c → 0 < d → AtMost (signed s a c) (signed t b d)
    → T (le (round f s a c) (round f t b d))
signed_keeps_order f false a c false b d C D h = round_mono f a c b d C D (omega arith)
signed_keeps_order f false a c true b d C D h =
    transitive (round f false a c) +0 (round f true b d)
    (round_none_below f a c C (omega (arith, le-mul_of_pos_right a D)))
    (round_none_above f b d D (omega (arith, le-mul_of_pos_right b C)))
signed_keeps_order f true a c false b d C D h = transitive (round f true a c) +0 (round f false b d) (round_not_above f a c C) (round_not_below f b d D)
signed_keeps_order f true a c true b d C D h =
    rw (round_negated f a c, round_negated f b d) (neg_reverses (round f false b d) (round f false a c) (round_mono f b d a c D C (omega arith)))

-- r is ±size / den v, rounded, and ±size is over v - under v
pub record Rounded (f : Format) (v : Fraction) (r : Float) : Type 0 where
  pub sign : Bool
  pub size : ℕ
  pub is : r ≡ round f sign size v.den
  pub says : v.over + cond sign size 0 ≡ v.under + cond sign 0 size

-- one rounding keeps the order of the exact values: sums, differences and squares of floats grow by this law
pub rounding_keeps_order : {f : Format} {v w : Fraction} {r q : Float} → 0 < v.den → 0 < w.den → Rounded f v r → Rounded f w q → AtMost v w → T (le r q)
rounding_keeps_order {f} {v} {w} hv hw p q h =
    rw (p.is, q.is)
    (signed_keeps_order f p.sign p.size v.den q.sign q.size w.den hv hw
    (omega (arith, ap (λ (x : ℕ). x * w.den) p.says, ap (λ (x : ℕ). x * v.den) q.says)))
