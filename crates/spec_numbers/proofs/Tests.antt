-- A test that passed or failed, as a fact: a branch of a program knows that a Bool is true or false, and the laws speak of `T`.
use mathlib.Core.Path.{◌≡◌, refl, subst⁻¹}
use mathlib.Core.Bool.{Bool, true, false, not, ◌&&◌, ◌||◌, false≢true}
use mathlib.Core.Logic.{◌⊎◌, inl, inr}
use lib.Dec.{T}

-- a test came out one way or the other: a proof goes by cases on it
pub either : (b : Bool) → (b ≡ true) ⊎ (b ≡ false)
either true = inl refl
either false = inr refl

-- a test that came out true holds: the way from a branch of code to the laws
pub passed : {b : Bool} → b ≡ true → T b
passed e = subst⁻¹ T e tt

-- a test that came out false does not hold: the same for the other branch
pub failed : {b : Bool} → b ≡ false → T (not b)
failed e = subst⁻¹ (λ (b : Bool). T (not b)) e tt

-- proof by cases on a disjunction of tests
pub or_elim : (a b : Bool) {C : Type 0} → (T a → C) → (T b → C) → T (a || b) → C
or_elim true b f g t = f tt
or_elim false b f g t = g t

-- a disjunction holds where its first test does
pub or_l : (a b : Bool) → T a → T (a || b)
or_l true b t = tt
or_l false b t = elim t [ ]

-- a disjunction holds where its second test does
pub or_r : (a b : Bool) → T b → T (a || b)
or_r true b t = tt
or_r false b t = t

-- both parts of a conjunction that passed have passed
pub both_passed : (a b : Bool) → (a && b) ≡ true → (a ≡ true) × (b ≡ true)
both_passed true b h = (refl, h)
both_passed false b h = absurd (false≢true h)

-- a conjunction passes where both parts pass
pub both_pass : (a b : Bool) → a ≡ true → b ≡ true → (a && b) ≡ true
both_pass a b p q = simp (p, q)
