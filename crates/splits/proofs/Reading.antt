-- What a slice's triangles have by their places, said of a triangle that was read from it.
use Rattle.std.proofs.Common.{◌≡◌, ℕ, ◌<◌, List, length, get_or, sym, subst, ◌∙◌}
use Rattle.std.proofs.lemmas.Grind.{get_or_default_zero}
use lib.Ieee.{Float}
use Rattle.spec_splits.specs.Splits.{InTable, AllInTable}

-- a closure over the slice is asked of each triangle that it reads there: it has a box in the table
pub in_table_read : (bounds : List Float) (slice : List ℕ) → AllInTable bounds slice → (t k : ℕ) → k < length slice → t ≡ get_or slice k t → InTable bounds t
in_table_read bounds slice all t k h e = subst (InTable bounds) (sym (e ∙ get_or_default_zero slice k t h)) (all k h)
