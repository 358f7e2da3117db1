-- A rounded difference of finite floats grows with its first term, falls with its second, and has the sign of the order of the two.
-- It may overflow to an infinity, and is never a NaN.
use mathlib.Core.Path.{◌≡◌, sym, ◌∙◌}
use mathlib.Core.Bool.{Bool, true, false, not}
use Prim.Native.Nat.{ℕ, ◌*◌, ◌<◌}
use native.Mathlib.Nat.{le_refl, mul-pos, zero-mul, sub_self}
use lib.Dec.{T, ltb}
use lib.Pow.{pow_pos}
use lib.Arith.{le→nltb}
use lib.Ieee.{Float, fin, Format, up, down, round, sum, neg, sub, le, inf, nan}
use lib.Ieee.Bits.{is_false}
use lib.Ieee.Fits.{down_pos}
use lib.Ieee.Scale.{finite, round_same}
use Rattle.spec_numbers.specs.Values.{zero, Number}
use Rattle.spec_numbers.proofs.Order.{reflexive, finite_number}
use Rattle.spec_numbers.proofs.Rounding.{round_zero, neg_reverses}
use Rattle.spec_numbers.proofs.Sum.{finite_add_keeps_order, add_number}

neg_finite : (x : Float) → T (finite x) → T (finite (neg x))
unfolding neg
neg_finite (fin s m e) h = tt
neg_finite nan h = elim h [ ]
neg_finite (inf _) h = elim h [ ]

-- ---- in its first term, and in both
-- a difference of finite floats is no NaN
pub sub_number : (f : Format) (x p : Float) → T (finite x) → T (finite p) → Number (sub f x p)
unfolding sub
sub_number f x p X P = add_number f x (neg p) X (neg_finite p P)

sub_keeps_order : (f : Format) (x p y q : Float) → T (finite x) → T (finite p) → T (finite y) → T (finite q) → T (le x y) → T (le q p)
    → T (le (sub f x p) (sub f y q))
unfolding sub
sub_keeps_order f x p y q X P Y Q h k = finite_add_keeps_order f x (neg p) y (neg q) X (neg_finite p P) Y (neg_finite q Q) h (neg_reverses q p k)

-- a difference grows with the number that is subtracted from
pub sub_grows : (f : Format) (x y p : Float) → T (finite x) → T (finite y) → T (finite p) → T (le x y) → T (le (sub f x p) (sub f y p))
sub_grows f x y p X Y P h = sub_keeps_order f _ _ _ _ X P Y P h (reflexive _ (finite_number _ P))

-- ---- of a float and itself
round_nothing : (f : Format) (c : ℕ) → 0 < c → round f false 0 c ≡ zero
round_nothing f c C = round_same f false 0 c 0 1 C (pow_pos 0) (zero-mul 1 ∙ sym (zero-mul c)) ∙ round_zero f

not_below_itself : (a : ℕ) → ltb a a ≡ false
not_below_itself a = is_false (ltb a a) (le→nltb a a (le_refl a))

opposite : (f : Format) (s : Bool) (a c : ℕ) → 0 < c → sum f s a (not s) a c ≡ zero
unfolding sum
opposite f false a c C = rw (not_below_itself a, sub_self a) (round_nothing f c C)
opposite f true a c C = rw (not_below_itself a, sub_self a) (round_nothing f c C)

-- a finite number less itself is +0
pub difference_with_itself : (f : Format) (x : Float) → T (finite x) → sub f x x ≡ zero
unfolding sub
difference_with_itself f (fin s m e) h = opposite f s (m * up e * down e) (down e * down e) (mul-pos (down_pos e) (down_pos e))
difference_with_itself f nan h = elim h [ ]
difference_with_itself f (inf _) h = elim h [ ]

-- ---- the sign of a difference
-- a number less one that is not above it is not below zero: rounding does not turn the sign
pub sub_not_below : (f : Format) (x p : Float) → T (finite x) → T (finite p) → T (le p x) → T (le zero (sub f x p))
sub_not_below f x p X P h = rw (difference_with_itself f p P) at (sub_grows f p x p P X P h)

-- a number less one that is not below it is not above zero
pub sub_not_above : (f : Format) (x p : Float) → T (finite x) → T (finite p) → T (le x p) → T (le (sub f x p) zero)
sub_not_above f x p X P h = rw (difference_with_itself f p P) at (sub_grows f x p p X P P h)
