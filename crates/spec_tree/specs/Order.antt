-- What it is for the order list to be a permutation of 0 to n - 1, and the test of it.
-- The tree check accepts permutations alone, so every triangle is under exactly one leaf.
use Rattle.std.specs.Prelude.{◌≡◌, Bool, true, false, not, ◌&&◌, ◌||◌, ℕ, zero, suc, ◌≤◌, ◌<◌, ltb, eqb, length, get_or}
use mathlib.Core.List.{List, [], ◌∷◌, ◌++◌, Permᴰ}

-- the range 0, 1, .. n - 1
unfoldable pub range : ℕ → List ℕ
range zero = []
range (suc n) = range n ++ (n ∷ [])

abbrev pub Permutes : ℕ → List ℕ → Type 0
Permutes n order = Permᴰ order (range n)

-- each entry is below n: reading its triangle stays within the list
abbrev pub EntriesBelow : ℕ → List ℕ → Type 0
EntriesBelow n order = (i : ℕ) → i < length order → get_or order i 0 < n

unfoldable pub occurs : ℕ → List ℕ → Bool
occurs k [] = false
occurs k (x ∷ xs) = eqb x k || occurs k xs

-- no number stands twice
unfoldable pub distinct : List ℕ → Bool
distinct [] = true
distinct (x ∷ xs) = not (occurs x xs) && distinct xs

unfoldable pub all_below : ℕ → List ℕ → Bool
all_below n [] = true
all_below n (x ∷ xs) = ltb x n && all_below n xs

-- n numbers, each below n, none of them twice: a loop with one mark a number decides it
unfoldable pub permutes : ℕ → List ℕ → Bool
permutes n order = eqb (length order) n && all_below n order && distinct order

-- marks for the numbers below n, none of them set
pub record Unmarked (n : ℕ) (seen : List Bool) : Type 0 where
  pub room : n ≤ length seen
  pub unset : (k : ℕ) → k < n → get_or seen k false ≡ false
