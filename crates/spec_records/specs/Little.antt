-- Little-endian numbers of any width, in bytes.
use Rattle.std.specs.Prelude.{ℕ, zero, suc, ◌+◌, ◌*◌, ◌/◌, ◌%◌, ◌<◌, List, [], ◌∷◌, get_or}
use Rattle.spec_tables.specs.Tables.{slice}

-- the lowest w bytes of n, the lowest first
unfoldable pub little : ℕ → ℕ → List ℕ
little zero n = []
little (suc w) n = n % 256 ∷ little w (n / 256)

-- the number that bytes spell
unfoldable pub of_little : List ℕ → ℕ
of_little [] = 0
of_little (b ∷ bs) = b + 256 * of_little bs

-- the number that the w bytes from at on spell
unfoldable pub little_at : ℕ → List ℕ → ℕ → ℕ
little_at w s at = of_little (slice s at w)

-- each element is a byte
pub record Bytes (s : List ℕ) : Type 0 where
  pub below : (i : ℕ) → get_or s i 0 < 256
