-- A difference squared is the same either way round, and so the length of a difference of points is: NaNs, infinities and zeros too.
use mathlib.Core.Path.{◌≡◌, refl, ap, ◌∙◌, sym}
use mathlib.Core.Bool.{Bool, true, false, not, cond}
use Prim.Native.Nat.{ℕ, ◌+◌, ◌-◌, ◌*◌}
use native.Mathlib.Nat.{add_comm, mul_comm}
use native.Mathlib.Omega.{arith}
use borrow.Author.Tests.{ltb-true, ltb-false}
use lib.Dec.{ltb}
use lib.Ieee.{Float, nan, inf, fin, Format, up, down, round, sum, neg, add, sub, mul}
use Rattle.spec_numbers.proofs.Rounding.{round_negated}
use Rattle.spec_shapes.specs.Points.{Point, minus, dot}
use Rattle.spec_angles.specs.Winding.{norm}

abbrev square : Format → Float → Float
square f x = mul f x x

-- ---- the sign goes
neg_square : (f : Format) (x : Float) → square f (neg x) ≡ square f x
unfolding neg mul
neg_square f nan = refl
neg_square f (inf false) = refl
neg_square f (inf true) = refl
neg_square f (fin false m e) = refl
neg_square f (fin true m e) = refl

unsigned_square : (f : Format) (s : Bool) (a c : ℕ) → square f (round f s a c) ≡ square f (round f false a c)
unsigned_square f false a c = refl
unsigned_square f true a c = ap (square f) (round_negated f a c) ∙ neg_square f (round f false a c)

-- how far ±a is from ±b
abbrev apart : (s t : Bool) (a b : ℕ) → ℕ
apart false false a b = (a - b) + (b - a)
apart false true a b = a + b
apart true false a b = a + b
apart true true a b = (a - b) + (b - a)

apart_turned : (s t : Bool) (a b : ℕ) → apart s t a b ≡ apart t s b a
apart_turned false false a b = add_comm (a - b) (b - a)
apart_turned false true a b = add_comm a b
apart_turned true false a b = add_comm a b
apart_turned true true a b = add_comm (a - b) (b - a)

module _ (f : Format) (a b c : ℕ) where
  by_rounding : (s : Bool) (n m : ℕ) → n ≡ m → square f (round f s n c) ≡ square f (round f false m c)
  by_rounding s n m e = unsigned_square f s n c ∙ ap (λ (k : ℕ). square f (round f false k c)) e

  one_below : (s t u : Bool) → u ≡ ltb a b → square f (cond u (round f s (b - a) c) (round f t (a - b) c)) ≡ square f (round f false ((a - b) + (b - a)) c)
  one_below s t true e = let l = ltb-true a b (sym e) in by_rounding s (b - a) ((a - b) + (b - a)) (omega arith)
  one_below s t false e = let l = ltb-false a b (sym e) in by_rounding t (a - b) ((a - b) + (b - a)) (omega arith)

  difference_square : (s t : Bool) → square f (sum f s a (not t) b c) ≡ square f (round f false (apart s t a b) c)
  unfolding sum
  difference_square false true = refl
  difference_square true false = unsigned_square f true (a + b) c
  difference_square false false = one_below true false (ltb a b) refl
  difference_square true true = one_below false (ltb b a) (ltb a b) refl

-- ---- either way round
-- on one axis
turned_square : (f : Format) (x y : Float) → square f (sub f x y) ≡ square f (sub f y x)
unfolding sub add neg mul
turned_square f nan nan = refl
turned_square f nan (inf t) = refl
turned_square f nan (fin t n d) = refl
turned_square f (inf s) nan = refl
turned_square f (inf false) (inf false) = refl
turned_square f (inf false) (inf true) = refl
turned_square f (inf true) (inf false) = refl
turned_square f (inf true) (inf true) = refl
turned_square f (inf false) (fin t n d) = refl
turned_square f (inf true) (fin t n d) = refl
turned_square f (fin s m e) nan = refl
turned_square f (fin s m e) (inf false) = refl
turned_square f (fin s m e) (inf true) = refl
turned_square f (fin s m e) (fin t n d) =
    let a = m * up e * down d in
    let b = n * up d * down e in
    difference_square f a b (down e * down d) s t
    ∙ ap (λ (k : ℕ). square f (round f false k (down e * down d))) (apart_turned s t a b)
    ∙ ap (λ (c : ℕ). square f (round f false (apart t s b a) c)) (mul_comm (down e) (down d))
    ∙ sym (difference_square f b a (down d * down e) t s)

square_either_way : (f : Format) (a b : Point) → dot f (minus f a b) (minus f a b) ≡ dot f (minus f b a) (minus f b a)
unfolding dot minus
square_either_way f a b = rw (turned_square f a.x b.x, turned_square f a.y b.y, turned_square f a.z b.z)

-- so the length of a difference is the same either way round, and one root serves the test and the term
pub length_either_way : (f : Format) (a b : Point) → norm f (minus f a b) ≡ norm f (minus f b a)
unfolding norm
length_either_way f a b = rw (square_either_way f a b)
