-- The larger of two is the least number that is at least both, the smaller the greatest that is at most both.
-- A number held into an interval lies in it, stays if it lay there, and lies between what it was and each number of the interval.
use mathlib.Core.Path.{◌≡◌, refl, ap, ◌∙◌}
use mathlib.Core.Logic.{inl, inr}
use mathlib.Core.Bool.{Bool, true, false, not, cond}
use lib.Dec.{T}
use lib.Ieee.{Float, lt, le}
use lib.Ieee.Scale.{finite}
use Rattle.spec_numbers.specs.Values.{Number}
use Rattle.spec_numbers.specs.Hold.{smaller, larger, lower, held}
use Rattle.spec_numbers.proofs.Order.{reflexive, transitive, total, lt→le, lt→not_le, not_lt→le, number_left, number_right}

-- ---- what `cond` picks has what both have, and what the test says of the one that it picks
picked : (P : Float → Type 0) (b : Bool) (x y : Float) → (T b → P x) → (T (not b) → P y) → P (cond b x y)
picked P true x y p q = p tt
picked P false x y p q = q tt

second : (b : Bool) (x y : Float) → (T b → ⊥) → cond b x y ≡ y
second true x y n = absurd (n tt)
second false x y n = refl

module _ (a b : Float) where
  -- ---- the larger of the two
  -- the larger is at least the first
  pub larger_first : Number a → T (le a (larger a b))
  larger_first A = picked (λ z. T (le a z)) (lt a b) b a (lt→le a b) (λ t. reflexive a A)

  -- the larger is at least the second
  pub larger_second : Number a → Number b → T (le b (larger a b))
  larger_second A B = picked (λ z. T (le b z)) (lt a b) b a (λ t. reflexive b B) (not_lt→le a b A B)

  -- the larger is no larger than it must be: so a union is the smallest box that holds both
  pub larger_least : (z : Float) → T (le a z) → T (le b z) → T (le (larger a b) z)
  larger_least z h k = picked (λ y. T (le y z)) (lt a b) b a (λ t. k) (λ t. h)

  larger_stays : T (le b a) → larger a b ≡ a
  larger_stays h = second (lt a b) b a (λ t. lt→not_le a b t h)

  -- the larger of two finite numbers is finite
  pub larger_finite : T (finite a) → T (finite b) → T (finite (larger a b))
  larger_finite A B = picked (λ z. T (finite z)) (lt a b) b a (λ t. B) (λ t. A)

  -- ---- the smaller of the two
  -- the smaller is at most the first
  pub smaller_first : Number a → T (le (smaller a b) a)
  smaller_first A = picked (λ z. T (le z a)) (lt b a) b a (lt→le b a) (λ t. reflexive a A)

  -- the smaller is at most the second
  pub smaller_second : Number a → Number b → T (le (smaller a b) b)
  smaller_second A B = picked (λ z. T (le z b)) (lt b a) b a (λ t. reflexive b B) (not_lt→le b a B A)

  -- the smaller is no smaller than it must be
  pub smaller_greatest : (z : Float) → T (le z a) → T (le z b) → T (le z (smaller a b))
  smaller_greatest z h k = picked (λ y. T (le z y)) (lt b a) b a (λ t. k) (λ t. h)

  smaller_stays : T (le a b) → smaller a b ≡ a
  smaller_stays h = second (lt b a) b a (λ t. lt→not_le b a t h)

  -- the smaller of two finite numbers is finite
  pub smaller_finite : T (finite a) → T (finite b) → T (finite (smaller a b))
  smaller_finite A B = picked (λ z. T (finite z)) (lt b a) b a (λ t. B) (λ t. A)

-- ---- a number held into the interval from lo to hi
-- a held number is not below the interval
pub held_at_least : (lo hi x : Float) → T (le lo hi) → Number x → T (le lo (held lo hi x))
held_at_least lo hi x h n = smaller_greatest _ _ _ (larger_second _ _ n (number_left _ _ h)) h

-- a held number is not above the interval
pub held_at_most : (lo hi x : Float) → T (le lo hi) → Number x → T (le (held lo hi x) hi)
held_at_most lo hi x h n = smaller_second _ _ (number_right _ _ (larger_first x lo n)) (number_right _ _ h)

-- a number that lies in the interval is held where it is
pub held_stays : (lo hi x : Float) → T (le lo x) → T (le x hi) → held lo hi x ≡ x
held_stays lo hi x h k = ap (lower hi) (larger_stays x lo h) ∙ smaller_stays x hi k

-- a finite number held into a finite interval is finite
pub held_finite : (lo hi x : Float) → T (finite lo) → T (finite hi) → T (finite x) → T (finite (held lo hi x))
held_finite lo hi x L H X = smaller_finite _ _ (larger_finite _ _ X L) H

-- ---- q lies between p and h
pub data Between (p q h : Float) : Type 0 where
  upward : T (le p q) → T (le q h) → Between p q h
  downward : T (le h q) → T (le q p) → Between p q h

module _ (lo hi p h : Float) (n : Number p) (l : T (le lo h)) (k : T (le h hi)) where
  -- from p up to h, and from p down to h
  held_upward : T (le p h) → Between p (held lo hi p) h
  held_upward t =
      let r = larger_least p lo h t l in
      upward (smaller_greatest _ _ _ (larger_first _ _ n) (transitive _ _ _ t k)) (transitive _ _ _ (smaller_first _ hi (number_left _ _ r)) r)

  held_downward : T (le h p) → Between p (held lo hi p) h
  held_downward t =
      downward (smaller_greatest _ _ _ (transitive _ _ _ t (larger_first _ _ n)) k) (rw (larger_stays p lo (transitive _ _ _ l t)) (smaller_first p hi n))

  -- a held number lies between what it was and each number of the interval: so none of these is nearer to what it was
  pub held_between : Between p (held lo hi p) h
  held_between = elim (total _ _ n (number_right _ _ l)) [ inl t ↦ held_upward t | inr t ↦ held_downward t ]
