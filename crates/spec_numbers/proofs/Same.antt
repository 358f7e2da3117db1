-- The test of sameness says yes exactly where the two floats are equal as data, and, of numbers of a format, where their bit patterns are.
use mathlib.Core.Path.{◌≡◌, refl, sym, ap, ◌∙◌}
use mathlib.Core.Bool.{Bool, true, false, beq, ◌&&◌, false≢true}
use borrow.Author.Tests.{eqb-true, eq-eqb}
use lib.Dec.{T, eqb}
use lib.IntN.{ℤ, pos, negsuc}
use lib.Ieee.{Float, nan, inf, fin, Format, fits, of_bits, to_bits}
use lib.Ieee.Bits.{of_bits-to_bits}
use Rattle.spec_numbers.specs.Same.{same_whole, same}
use Rattle.spec_numbers.proofs.Tests.{both_passed}

sign_equal : (s t : Bool) → beq s t ≡ true → s ≡ t
sign_equal true true h = refl
sign_equal true false h = absurd (false≢true h)
sign_equal false true h = absurd (false≢true h)
sign_equal false false h = refl

sign_itself : (s : Bool) → beq s s ≡ true
sign_itself true = refl
sign_itself false = refl

whole_equal : (e k : ℤ) → same_whole e k ≡ true → e ≡ k
whole_equal (pos m) (pos n) h = ap pos (eqb-true m n h)
whole_equal (pos m) (negsuc n) h = absurd (false≢true h)
whole_equal (negsuc m) (pos n) h = absurd (false≢true h)
whole_equal (negsuc m) (negsuc n) h = ap negsuc (eqb-true m n h)

whole_itself : (e : ℤ) → same_whole e e ≡ true
whole_itself (pos m) = eq-eqb m m refl
whole_itself (negsuc m) = eq-eqb m m refl

-- floats that the test calls the same are equal as data
pub same_equal : (a b : Float) → same a b ≡ true → a ≡ b
unfolding same
same_equal nan nan h = refl
same_equal nan (inf t) h = absurd (false≢true h)
same_equal nan (fin t n k) h = absurd (false≢true h)
same_equal (inf s) nan h = absurd (false≢true h)
same_equal (inf s) (inf t) h = ap inf (sign_equal s t h)
same_equal (inf s) (fin t n k) h = absurd (false≢true h)
same_equal (fin s m e) nan h = absurd (false≢true h)
same_equal (fin s m e) (inf t) h = absurd (false≢true h)
same_equal (fin s m e) (fin t n k) h =
    let outer = both_passed (beq s t && eqb m n) (same_whole e k) h in
    let inner = both_passed (beq s t) (eqb m n) outer.0 in
    let signs : s ≡ t = sign_equal s t inner.0 in
    let digits : m ≡ n = eqb-true m n inner.1 in
    let exponents : e ≡ k = whole_equal e k outer.1 in
    λ i. fin (signs i) (digits i) (exponents i)

same_itself : (a : Float) → same a a ≡ true
unfolding same
same_itself nan = refl
same_itself (inf s) = sign_itself s
same_itself (fin s m e) = simp (sign_itself, whole_itself, eq-eqb m m refl)

-- the test calls equal floats the same, NaNs too
pub equal_same : (a b : Float) → a ≡ b → same a b ≡ true
equal_same a b p = rw (← p) (same_itself a)

-- two tests that pass together say the same
together : (p q : Bool) → (p ≡ true → q ≡ true) → (q ≡ true → p ≡ true) → p ≡ q
together true true h k = refl
together true false h k = sym (h refl)
together false true h k = k refl
together false false h k = refl

-- numbers of a format are the same where their patterns are: code compares the patterns
pub patterns_same : (f : Format) (a b : Float) → T (fits f a) → T (fits f b) → eqb (to_bits f a) (to_bits f b) ≡ same a b
patterns_same f a b p q =
    together (eqb (to_bits f a) (to_bits f b)) (same a b)
    (λ h. equal_same a b (sym (of_bits-to_bits f a p) ∙ ap (of_bits f) (eqb-true (to_bits f a) (to_bits f b) h) ∙ of_bits-to_bits f b q))
    (λ h. eq-eqb (to_bits f a) (to_bits f b) (ap (to_bits f) (same_equal a b h)))
