-- Lists made piece by piece, and lists written into lent ones: the words in which contracts say what a loop has written.
use Rattle.std.specs.Prelude.{ℕ, zero, suc, ◌+◌, ◌≤◌, ◌≡◌, List, [], ◌++◌, length, take, drop}

-- old, overwritten with new from place at on; all else as it was
unfoldable pub overwrite {ℓ} : {A : Type ℓ} → ℕ → List A → List A → List A
overwrite at new old = take at old ++ (new ++ drop (at + length new) old)

-- the concatenation of f 0, f 1 and so on, n pieces: what a loop of n turns appends
unfoldable pub concat_map {ℓ} : {A : Type ℓ} → (ℕ → List A) → ℕ → List A
concat_map f zero = []
concat_map f (suc n) = concat_map f n ++ f n

-- the slice of `size` elements from at on
abbrev pub slice {ℓ} : {A : Type ℓ} → List A → ℕ → ℕ → List A
slice s at size = take size (drop at s)

-- rest is all that remains of s from at on
pub record Remaining {A : Type 0} (s : List A) (at : ℕ) (rest : List A) : Type 0 where
  pub within : at ≤ length s
  pub remaining : drop at s ≡ rest

-- new was written from at on, within the list, and next is the place behind it
pub record Put {A : Type 0} (at : ℕ) (new old out : List A) (next : ℕ) : Type 0 where
  pub written : out ≡ overwrite at new old
  pub behind : next ≡ at + length new
  pub within : next ≤ length old
