-- The words of a stored case: numbers of four bytes, the lowest byte first, 0 past the end.
use Rattle.std.specs.Prelude.{cond, List, [], ◌∷◌, ℕ, ◌+◌, ◌*◌, ltb, leb, length}
use Rattle.spec_tables.specs.Tables.{concat_map}
use Rattle.spec_records.specs.Little.{little_at}

unfoldable pub word_at : List ℕ → ℕ → ℕ
word_at s at = cond (leb (at + 4) (length s)) (little_at 4 s at) 0

-- the sum, or the first where one of the two is so large that the sum could overflow
unfoldable pub more : ℕ → ℕ → ℕ
more n by = cond (ltb n 1000000000) (cond (ltb by 1000000000) (n + by) n) n

-- what n words from a place on stand for
unfoldable pub words_from : {A : Type 0} → (ℕ → A) → List ℕ → ℕ → ℕ → List A
words_from of s from n = concat_map (λ i. of (word_at s (more from (4 * i))) ∷ []) n
