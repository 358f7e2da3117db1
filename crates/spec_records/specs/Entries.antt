-- Lists of whole numbers and of floats as bytes, over the size of an entry: how they are written, and how they are read.
use Rattle.std.specs.Prelude.{ℕ, ◌+◌, ◌*◌, ◌^◌, ◌<◌, List, [], ◌∷◌, get_or, T, Float}
use Rattle.std.specs.Float.{nan, Format, binary32, binary64}
use Rattle.std.specs.Float.Ieee.{fits, of_bits, to_bits}
use Rattle.spec_tables.specs.Tables.{concat_map}
use Rattle.spec_numbers.specs.Values.{Number}
use Rattle.spec_records.specs.Little.{little, little_at}

-- how many bytes a float takes
abbrev pub float_size : Format → ℕ
float_size binary32 = 4
float_size binary64 = 8

-- the n entries of xs from `from` on, w bytes each
abbrev pub number_bytes : ℕ → List ℕ → ℕ → ℕ → List ℕ
number_bytes w xs from n = concat_map (λ i. little w (get_or xs (from + i) 0)) n

-- the same of floats, each as its bit pattern
abbrev pub float_bytes : Format → List Float → ℕ → ℕ → List ℕ
float_bytes f xs from n = concat_map (λ i. little (float_size f) (to_bits f (get_or xs (from + i) nan))) n

-- the n entries that stand in s from start on, w bytes each
abbrev pub numbers_in : ℕ → List ℕ → ℕ → ℕ → List ℕ
numbers_in w s start n = concat_map (λ i. little_at w s (start + w * i) ∷ []) n

-- the same of floats
abbrev pub floats_in : Format → List ℕ → ℕ → ℕ → List Float
floats_in f s start n = concat_map (λ i. of_bits f (little_at (float_size f) s (start + float_size f * i)) ∷ []) n

-- ---- which lists come back
-- each of the n numbers from `from` on fits w bytes
abbrev pub FitBytes : ℕ → List ℕ → ℕ → ℕ → Type 0
FitBytes w xs from n = (i : ℕ) → i < n → get_or xs (from + i) 0 < 256 ^ w

-- each of the n floats from `from` on is one of the format
abbrev pub FitFormat : Format → List Float → ℕ → ℕ → Type 0
FitFormat f xs from n = (i : ℕ) → i < n → T (fits f (get_or xs (from + i) nan))

-- none of the first n floats is a NaN
abbrev pub NoNan : List Float → ℕ → Type 0
NoNan xs n = (i : ℕ) → i < n → Number (get_or xs i nan)
