-- The order of floats: `le` is a total order on what is no NaN, up to `eq`, and `lt` is its strict part. Infinities are included.
use mathlib.Core.Logic.{◌⊎◌, inl, inr}
use mathlib.Core.Bool.{true, false, not}
use native.Mathlib.Nat.{le_refl, not-le_of_lt}
use lib.Dec.{T, T_not, not_T}
use lib.Ieee.{Float, inf, fin, is_nan, lt, le, eq, nan}
use lib.Ieee.Fits.{down_pos}
use lib.Ieee.Scale.{finite}
use Rattle.spec_numbers.specs.Values.{Number}
use Rattle.spec_numbers.proofs.Tests.{or_l, or_r, or_elim}
use Rattle.spec_numbers.proofs.Fraction.{value, at_most_transitive, less_or_at_most, compared}

-- ---- what compares is a number
-- a comparison that passed shows that its left side is no NaN
pub number_left : (x y : Float) → T (le x y) → Number x
unfolding le is_nan
number_left (inf s) y h = tt
number_left (fin s m e) y h = tt
number_left nan y h = elim h [ ]

-- a comparison that passed shows that its right side is no NaN
pub number_right : (x y : Float) → T (le x y) → Number y
unfolding le is_nan
number_right (inf s) (inf t) h = tt
number_right (inf s) (fin t n d) h = tt
number_right (fin s m e) (inf t) h = tt
number_right (fin s m e) (fin t n d) h = tt
number_right nan y h = elim h [ ]
number_right (inf s) nan h = elim h [ ]
number_right (fin s m e) nan h = elim h [ ]

-- a finite float is no NaN
pub finite_number : (x : Float) → T (finite x) → Number x
unfolding is_nan
finite_number (inf s) h = tt
finite_number (fin s m e) h = tt
finite_number nan h = elim h [ ]

-- ---- the infinities are the ends
-- minus infinity is at most every number
pub least : (y : Float) → Number y → T (le (inf true) y)
unfolding le is_nan
least (inf true) h = tt
least (inf false) h = tt
least (fin t n d) h = tt
least nan h = elim h [ ]

-- plus infinity is at least every number
pub greatest : (x : Float) → Number x → T (le x (inf false))
unfolding le is_nan
greatest (inf true) h = tt
greatest (inf false) h = tt
greatest (fin t n d) h = tt
greatest nan h = elim h [ ]

-- ---- a total order
-- a number is at most itself; a NaN is not
pub reflexive : (x : Float) → Number x → T (le x x)
unfolding le is_nan
reflexive (inf true) h = tt
reflexive (inf false) h = tt
reflexive (fin s m e) h = (compared (fin s m e) (fin s m e) tt tt).at_most→le (le_refl _)
reflexive nan h = elim h [ ]

-- comparisons chain, over infinities too
pub transitive : (x y z : Float) → T (le x y) → T (le y z) → T (le x z)
unfolding le
transitive (inf true) y z h k = least z (number_right y z k)
transitive (inf false) (inf false) z h k = k
transitive (fin s m e) (inf false) (inf false) h k = tt
transitive (fin s m e) (fin t n d) (inf false) h k = tt
transitive (fin s m e) (fin t n d) (fin u o c) h k =
    let x = fin s m e in
    let y = fin t n d in
    let z = fin u o c in
    (compared x z tt tt).at_most→le
    (at_most_transitive (value x) (value y) (value z) (down_pos d) ((compared x y tt tt).le→at_most h) ((compared y z tt tt).le→at_most k))
transitive nan y z h k = elim h [ ]
transitive (inf false) nan z h k = elim h [ ]
transitive (inf false) (inf true) z h k = elim h [ ]
transitive (inf false) (fin t n d) z h k = elim h [ ]
transitive (fin s m e) nan z h k = elim h [ ]
transitive (fin s m e) (inf false) nan h k = elim k [ ]
transitive (fin s m e) (inf false) (inf true) h k = elim k [ ]
transitive (fin s m e) (inf false) (fin u o c) h k = elim k [ ]
transitive (fin s m e) (inf true) z h k = elim h [ ]
transitive (fin s m e) (fin t n d) nan h k = elim k [ ]
transitive (fin s m e) (fin t n d) (inf true) h k = elim k [ ]

-- ---- `lt` is the strict part of `le`
-- a strict comparison is a comparison
pub lt→le : (x y : Float) → T (lt x y) → T (le x y)
unfolding le
lt→le x y h = or_l (lt x y) (eq x y) h

-- and so is an equality
pub eq→le : (x y : Float) → T (eq x y) → T (le x y)
unfolding le
eq→le x y h = or_r (lt x y) (eq x y) h

-- what is below is not at least: the two tests never both pass
pub lt→not_le : (x y : Float) → T (lt x y) → T (le y x) → ⊥
unfolding lt le
lt→not_le (inf true) (inf false) h k = k
lt→not_le (inf true) (fin t n d) h k = k
lt→not_le (inf false) (fin t n d) h k = h
lt→not_le (fin s m e) (inf false) h k = k
lt→not_le (fin s m e) (fin t n d) h k = not-le_of_lt ((compared (fin s m e) (fin t n d) tt tt).lt→less h)
    ((compared (fin t n d) (fin s m e) tt tt).le→at_most k)
lt→not_le nan y h k = elim h [ ]
lt→not_le (inf false) nan h k = elim h [ ]
lt→not_le (inf false) (inf _) h k = elim h [ ]
lt→not_le (inf true) nan h k = elim h [ ]
lt→not_le (inf true) (inf true) h k = elim h [ ]
lt→not_le (fin s m e) nan h k = elim h [ ]
lt→not_le (fin s m e) (inf true) h k = elim h [ ]

-- of two numbers the first is below or at least the second: a NaN is the only reason for neither
pub lt_or_le : (x y : Float) → Number x → Number y → T (lt x y) ⊎ T (le y x)
unfolding lt le is_nan
lt_or_le (inf true) (inf true) h k = inr tt
lt_or_le (inf true) (inf false) h k = inl tt
lt_or_le (inf false) (inf true) h k = inr tt
lt_or_le (inf false) (inf false) h k = inr tt
lt_or_le (inf true) (fin t n d) h k = inl tt
lt_or_le (inf false) (fin t n d) h k = inr tt
lt_or_le (fin s m e) (inf true) h k = inr tt
lt_or_le (fin s m e) (inf false) h k = inl tt
lt_or_le (fin s m e) (fin t n d) h k = elim (less_or_at_most (value (fin s m e)) (value (fin t n d))) [
  | inl l ↦ inl ((compared (fin s m e) (fin t n d) tt tt).less→lt l)
  | inr l ↦ inr ((compared (fin t n d) (fin s m e) tt tt).at_most→le l)
]
lt_or_le nan y h k = elim h [ ]
lt_or_le (inf false) nan h k = elim k [ ]
lt_or_le (inf true) nan h k = elim k [ ]
lt_or_le (fin s m e) nan h k = elim k [ ]

-- a strict test that failed is a comparison the other way round: how a branch that was not taken is read
pub not_lt→le : (x y : Float) → Number x → Number y → T (not (lt x y)) → T (le y x)
not_lt→le x y h k n = elim (lt_or_le x y h k) [ inl l ↦ absurd (T_not (lt x y) n l) | inr l ↦ l ]

-- a comparison that passed makes the strict test fail the other way round
pub le→not_lt : (x y : Float) → T (le x y) → T (not (lt y x))
le→not_lt x y h = not_T (lt y x) (λ (l : T (lt y x)). lt→not_le y x l h)

-- any two numbers compare
pub total : (x y : Float) → Number x → Number y → T (le x y) ⊎ T (le y x)
total x y h k = elim (lt_or_le x y h k) [ inl l ↦ inl (lt→le x y l) | inr l ↦ inr l ]

-- numbers that are at most each other are equal in value; as data +0 and -0 still differ
pub antisymmetric : (x y : Float) → T (le x y) → T (le y x) → T (eq x y)
unfolding le
antisymmetric x y h k = or_elim (lt x y) (eq x y) (λ (l : T (lt x y)). absurd (lt→not_le x y l k)) (λ (e : T (eq x y)). e) h

-- a strict comparison stays strict with a weak one behind it
pub lt_le_transitive : (x y z : Float) → T (lt x y) → T (le y z) → T (lt x z)
lt_le_transitive x y z h k =
    elim (lt_or_le x z (number_left _ _ (lt→le _ _ h)) (number_right _ _ k)) [ inl l ↦ l | inr l ↦ absurd (lt→not_le _ _ h (transitive _ _ _ k l)) ]

-- a strict comparison stays strict with a weak one in front of it
pub le_lt_transitive : (x y z : Float) → T (le x y) → T (lt y z) → T (lt x z)
le_lt_transitive x y z h k =
    elim (lt_or_le x z (number_left _ _ h) (number_right _ _ (lt→le _ _ k))) [ inl l ↦ l | inr l ↦ absurd (lt→not_le _ _ k (transitive _ _ _ l h)) ]

-- ---- a range test
-- what lies between finite floats is finite: a range test keeps out infinities and NaNs
pub finite_between : (lo x hi : Float) → T (finite lo) → T (finite hi) → T (le lo x) → T (le x hi) → T (finite x)
unfolding le
finite_between lo (fin s m e) hi l h a b = tt
finite_between (fin s m e) (inf true) hi l h a b = a
finite_between lo (inf false) (fin t n d) l h a b = b
finite_between lo nan hi l h a b = elim b [ ]
finite_between lo (inf false) nan l h a b = elim h [ ]
finite_between lo (inf false) (inf _) l h a b = elim h [ ]
finite_between nan (inf true) hi l h a b = elim l [ ]
finite_between (inf _) (inf true) hi l h a b = elim l [ ]
