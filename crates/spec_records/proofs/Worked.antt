-- Inputs of `gauge` without triangles and points, worked out byte by byte: with record 7 and without it, and what is wrong behind record 6.
use mathlib.Core.Path.{◌≡◌, refl}
use mathlib.Core.Bool.{true, false}
use mathlib.Core.List.{List, [], ◌∷◌, ◌++◌}
use Prim.Native.Nat.{ℕ}
use Rattle.spec_records.specs.Little.{little_at, of_little}
use Rattle.spec_records.specs.Records.{Layout, wrong, bodies, is_record, is_right, laid_out}
use Rattle.spec_records.specs.Layouts.{version_for, gauge_wants, gauge_spans}

-- records 1, 2, 5 and 6, and what stands behind them
abbrev input : (rest : List ℕ) → List ℕ
input rest =
    (8 ∷ 0 ∷ 0 ∷ 0 ∷ 1 ∷ 0 ∷ 1 ∷ 0 ∷ 1 ∷ 0 ∷ 1 ∷ 0 ∷ 40 ∷ 0 ∷ []) ++ (0 ∷ 0 ∷ 0 ∷ 0 ∷ 2 ∷ 0 ∷ []) ++ (0 ∷ 0 ∷ 0 ∷ 0 ∷ 5 ∷ 0 ∷ [])
    ++ (4 ∷ 0 ∷ 0 ∷ 0 ∷ 6 ∷ 0 ∷ 0 ∷ 0 ∷ 72 ∷ 66 ∷ []) ++ rest

abbrev laid : (rest : List ℕ) → Layout
laid rest = laid_out gauge_wants (input rest) 0

-- the rule may be left out
pub left_out : laid [] ≡ bodies (gauge_spans 0 0 false)
unfolding laid_out is_right is_record version_for little_at of_little gauge_spans
left_out = refl

-- or told: its body starts at 42
pub told : laid (2 ∷ 0 ∷ 0 ∷ 0 ∷ 7 ∷ 0 ∷ 2 ∷ 0 ∷ []) ≡ bodies (gauge_spans 0 0 true)
unfolding laid_out is_right is_record version_for little_at of_little gauge_spans
told = refl

-- but not in four bytes
pub four_bytes : laid (4 ∷ 0 ∷ 0 ∷ 0 ∷ 7 ∷ 0 ∷ 2 ∷ 0 ∷ 0 ∷ 0 ∷ []) ≡ wrong 36
unfolding laid_out is_right is_record version_for little_at of_little
four_bytes = refl

-- nor by a record of another kind
pub other_kind : laid (2 ∷ 0 ∷ 0 ∷ 0 ∷ 8 ∷ 0 ∷ 2 ∷ 0 ∷ []) ≡ wrong 36
unfolding laid_out is_right is_record version_for little_at of_little
other_kind = refl

-- nor by one that is cut off
pub cut_off : laid (2 ∷ 0 ∷ 0 ∷ 0 ∷ 7 ∷ 0 ∷ 2 ∷ []) ≡ wrong 36
unfolding laid_out is_right is_record version_for little_at of_little
cut_off = refl

-- nor twice: the second is wrong
pub twice : laid (2 ∷ 0 ∷ 0 ∷ 0 ∷ 7 ∷ 0 ∷ 2 ∷ 0 ∷ 2 ∷ 0 ∷ 0 ∷ 0 ∷ 7 ∷ 0 ∷ 2 ∷ 0 ∷ []) ≡ wrong 44
unfolding laid_out is_right is_record version_for little_at of_little
twice = refl
