-- Things with a key and a number, ranked: the smaller key first, the lower number among equals; and a list that keeps the first few of those that are
-- offered. A hit's key is its squared distance.
use Rattle.std.specs.Prelude.{◌≡◌, Bool, true, false, cond, ◌&&◌, ◌||◌, ℕ, zero, suc, ◌<◌, ltb, take, Float}
use mathlib.Core.List.{List, [], ◌∷◌, Memᴰ}
use Rattle.std.specs.Float.Ieee.{lt, eq}
use Rattle.spec_numbers.specs.Values.{Number}

module _ {H : Type 0} (key : H → Float) (number : H → ℕ) where
  -- h has a smaller key than k, or an equal one and a lower number
  abbrev pub before : H → H → Bool
  before h k = lt (key h) (key k) || (eq (key h) (key k) && ltb (number h) (number k))

  -- h put before the first that it goes before, else at the end
  unfoldable pub inserted : H → List H → List H
  inserted h [] = h ∷ []
  inserted h (k ∷ ks) = cond (before h k) (h ∷ k ∷ ks) (k ∷ inserted h ks)

  -- what is kept, of so many that may be kept, once h is offered, if it counts
  unfoldable pub offered_to : ℕ → Bool → H → List H → List H
  offered_to most counts h ks = cond counts (take most (inserted h ks)) ks

  -- the last that may be kept is there, and d is strictly above its key
  unfoldable pub above_last : ℕ → Float → List H → Bool
  above_last zero d ks = false
  above_last (suc more) d [] = false
  above_last (suc zero) d (k ∷ ks) = lt (key k) d
  above_last (suc (suc more)) d (k ∷ ks) = above_last (suc more) d ks

  -- ---- what may be said of them
  -- no key of theirs is below d
  abbrev pub NotBelow : Float → List H → Type 0
  NotBelow d [] = Unit {0}
  NotBelow d (k ∷ ks) = (lt (key k) d ≡ false) × NotBelow d ks

  -- their keys are numbers, none below one before it
  abbrev pub Rising : List H → Type 0
  Rising [] = Unit {0}
  Rising (k ∷ ks) = Number (key k) × (NotBelow (key k) ks × Rising ks)

  -- none of them goes before k
  abbrev pub NoneBefore : H → List H → Type 0
  NoneBefore k [] = Unit {0}
  NoneBefore k (j ∷ js) = (before j k ≡ false) × NoneBefore k js

  -- their keys are numbers, and none goes before one that stands before it: so of a ranking, and of equal markers
  abbrev pub Sorted : List H → Type 0
  Sorted [] = Unit {0}
  Sorted (k ∷ ks) = Number (key k) × (NoneBefore k ks × Sorted ks)

  -- h goes before each of them
  abbrev pub BeforeAll : H → List H → Type 0
  BeforeAll h [] = Unit {0}
  BeforeAll h (k ∷ ks) = (before h k ≡ true) × BeforeAll h ks

  -- each goes before all behind it
  abbrev pub Ranks : List H → Type 0
  Ranks [] = Unit {0}
  Ranks (h ∷ hs) = BeforeAll h hs × Ranks hs

  -- these are what counts of the first n, ranked: each of them is one that counts, and each that counts is there
  pub record IsRanking (at : ℕ → H) (counts : ℕ → Bool) (n : ℕ) (hs : List H) : Type 0 where
    pub ranks : Ranks hs
    pub theirs : (h : H) → Memᴰ h hs → (number h < n) × ((h ≡ at (number h)) × (counts (number h) ≡ true))
    pub complete : (t : ℕ) → t < n → counts t ≡ true → Memᴰ (at t) hs
