-- The list as words of four bytes, and the counts, numbers and points that they stand for. A word past the end is 0, and no place is past 16384.
use Rattle.std.specs.Prelude.{ℕ, ◌+◌, ◌*◌, cond, ◌&&◌, List, [], ◌∷◌, from_bits, nat_lt, Float}
use Rattle.std.specs.Float.{binary32}
use Rattle.spec_tables.specs.Tables.{concat_map}
use Rattle.test_words.specs.Words as Stored
use Rattle.spec_shapes.specs.Points.{Point}

unfoldable pub word_at : List ℕ → ℕ → ℕ
word_at s i = cond (nat_lt i 16384) (Stored.word_at s (4 * i)) 0

-- a count, at most 16384
unfoldable pub size_at : List ℕ → ℕ → ℕ
size_at s i = cond (nat_lt (word_at s i) 16384) (word_at s i) 16384

unfoldable pub number_at : List ℕ → ℕ → Float
number_at s i = from_bits binary32 (word_at s i)

-- at + size * i, or the end where that is past it
unfoldable pub place : (at size i : ℕ) → ℕ
place at size i = cond (nat_lt at 16384 && nat_lt size 16384 && nat_lt i 16384) (cond (nat_lt (at + size * i) 16384) (at + size * i) 16384) 16384

unfoldable pub point_at : List ℕ → ℕ → Point
point_at s at = record { x = number_at s (place at 1 0); y = number_at s (place at 1 1); z = number_at s (place at 1 2) }

-- how many words a mesh takes: two counts, nine a triangle, and four a point
unfoldable pub mesh_words : List ℕ → ℕ → ℕ
mesh_words s at = place (place 2 9 (size_at s at)) 4 (size_at s (place at 1 1))

-- the 720 numbers from `at` on: no mesh has more
unfoldable pub numbers_from : List ℕ → ℕ → List Float
numbers_from s at = concat_map (λ i. number_at s (place at 1 i) ∷ []) 720
