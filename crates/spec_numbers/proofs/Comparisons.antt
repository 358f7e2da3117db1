-- The order as a program's tests find it, as equations of Bools: the search keeps the smallest distance by these tests.
use mathlib.Core.Path.{◌≡◌, refl, sym}
use mathlib.Core.Logic.{◌⊎◌, inl, inr}
use mathlib.Core.Bool.{Bool, true, false, not, ◌&&◌}
use Prim.Native.Nat.{ℕ, ◌*◌}
use lib.Dec.{T, not_T, eqb, eqb→eq}
use lib.Ieee.{Float, inf, fin, up, down, level, lt, le, eq, nan}
use lib.Ieee.Bits.{is_true, is_false}
use lib.Ieee.Fits.{and_i, and_l, and_r, eq→eqb}
use Rattle.spec_numbers.specs.Values.{Number}
use Rattle.spec_numbers.proofs.Tests.{passed, or_r}
use Rattle.spec_numbers.proofs.Order.{lt→le, lt→not_le, lt_or_le, not_lt→le, le→not_lt, le_lt_transitive, antisymmetric, number_left}

-- what is below something is a number
pub less_number : (x y : Float) → lt x y ≡ true → Number x
less_number x y h = number_left x y (lt→le x y (passed h))

-- of two numbers at most one is below the other
pub less_asymmetric : (x y : Float) → lt x y ≡ true → lt y x ≡ false
less_asymmetric x y h = is_false (lt y x) (not_T (lt y x) (λ (l : T (lt y x)). lt→not_le x y (passed h) (lt→le y x l)))

-- any number is above the smaller of two or below the larger: what is no farther than what counts, counts too
pub less_between : (x y z : Float) → Number y → lt x z ≡ true → (lt x y ≡ true) ⊎ (lt y z ≡ true)
less_between x y z n h = elim (lt_or_le x y (less_number x z h) n) [
  | inl l ↦ inl (is_true (lt x y) l)
  | inr l ↦ inr (is_true (lt y z) (le_lt_transitive y x z l (passed h)))
]

-- ---- equal numbers
level_symmetric : (s : Bool) (a : ℕ) (t : Bool) (b : ℕ) → T (level s a t b) → T (level t b s a)
level_symmetric false a false b h = and_i (eqb b a) true (eq→eqb {a = b} {b = a} (sym (eqb→eq a b (and_l (eqb a b) true h)))) tt
level_symmetric true a true b h = and_i (eqb b a) true (eq→eqb {a = b} {b = a} (sym (eqb→eq a b (and_l (eqb a b) true h)))) tt
level_symmetric false a true b h =
    let e : a ≡ b = eqb→eq a b (and_l (eqb a b) (eqb a 0) h) in
    and_i (eqb b a) (eqb b 0) (eq→eqb {a = b} {b = a} (sym e)) (rw e at (and_r (eqb a b) (eqb a 0) h))
level_symmetric true a false b h =
    let e : a ≡ b = eqb→eq a b (and_l (eqb a b) (eqb a 0) h) in
    and_i (eqb b a) (eqb b 0) (eq→eqb {a = b} {b = a} (sym e)) (rw e at (and_r (eqb a b) (eqb a 0) h))

equal_symmetric : (x y : Float) → T (eq x y) → T (eq y x)
unfolding eq
equal_symmetric (inf true) (inf true) h = tt
equal_symmetric (inf false) (inf false) h = tt
equal_symmetric (fin s m e) (fin t n d) h = level_symmetric s (m * up e * down d) t (n * up d * down e) h
equal_symmetric nan y h = elim h [ ]
equal_symmetric (inf false) nan h = elim h [ ]
equal_symmetric (inf false) (inf true) h = elim h [ ]
equal_symmetric (inf false) (fin t n d) h = elim h [ ]
equal_symmetric (inf true) nan h = elim h [ ]
equal_symmetric (inf true) (inf false) h = elim h [ ]
equal_symmetric (inf true) (fin t n d) h = elim h [ ]
equal_symmetric (fin s m e) nan h = elim h [ ]
equal_symmetric (fin s m e) (inf _) h = elim h [ ]

equal_not_less : (x y : Float) → T (eq x y) → T (not (lt x y))
unfolding le
equal_not_less x y h = le→not_lt y x (or_r (lt y x) (eq y x) (equal_symmetric x y h))

-- numbers are equal exactly where neither is below the other: a tie is where both tests fail
pub equal_is : (x y : Float) → Number x → Number y → eq x y ≡ (not (lt x y) && not (lt y x))
equal_is x y p q =
    go (eq x y) (lt x y) (lt y x) (equal_not_less x y) (λ e. equal_not_less y x (equal_symmetric x y e))
    (λ a b. antisymmetric x y (not_lt→le y x q p b) (not_lt→le x y p q a))
  where
    go : (e a b : Bool) → (T e → T (not a)) → (T e → T (not b)) → (T (not a) → T (not b) → T e) → e ≡ (not a && not b)
    go true true b h k l = absurd (h tt)
    go true false true h k l = absurd (k tt)
    go true false false h k l = refl
    go false true b h k l = refl
    go false false true h k l = refl
    go false false false h k l = absurd (l tt tt)
