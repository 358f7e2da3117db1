-- The calls `read_stl` and `write_stl`: what they refuse, what they answer, and what they leave in the lent list.
use Rattle.std.specs.Prelude.{ℕ, ◌*◌, not, List, [], ◌∷◌, eqb, length, Float}
use Rattle.spec_tables.specs.Tables.{overwrite}
use Rattle.spec_lists.specs.Reading.{triangle_count}
use Rattle.spec_lists.specs.Refusals as Refusals
use Rattle.spec_lists.specs.Refusals.{Verdict, passes, refused_if, first_refusal, triangles_refusal, room_refusal, after_verdict}
use Rattle.spec_stl.specs.Stl.{stl_count, stl_size, stl_triangles, stl_bytes}

-- a refusal's number and place, or how many triangles were read or bytes written
pub data Counted : Type 0 where
  refused : (number place : ℕ) → Counted
  counted : ℕ → Counted

abbrev pub counted_by : Verdict → (count : ℕ) → Counted
counted_by passes count = counted count
counted_by (Refusals.refused number place) count = refused number place

-- ---- read_stl
-- 11: the size is another than the count says; the place is the size
unfoldable pub size_refusal : List ℕ → Verdict
size_refusal s = refused_if (not (eqb (length s) (stl_size (stl_count s)))) 11 (length s)

-- 11, then 1 to 4 of the triangles that the bytes hold, then 6; `room` is the lent list's length
unfoldable pub read_refusal : List ℕ → (room : ℕ) → Verdict
read_refusal s room = first_refusal (size_refusal s ∷ triangles_refusal (stl_triangles s) ∷ room_refusal room (9 * stl_count s) ∷ [])

-- the lent list afterwards: the triangles from the front, and behind them what it held; on a refusal as it was
unfoldable pub triangles_after : List ℕ → (old : List Float) → List Float
triangles_after s old = after_verdict (read_refusal s (length old)) (overwrite 0 (stl_triangles s) old) old

-- ---- write_stl
-- 1 to 4, then 6; `given` is how many bytes are lent
unfoldable pub write_refusal : List Float → (given : ℕ) → Verdict
write_refusal xs given = first_refusal (triangles_refusal xs ∷ room_refusal given (stl_size (triangle_count xs)) ∷ [])

-- the lent bytes afterwards: the STL from the front, and behind it what they held; on a refusal as they were
unfoldable pub bytes_after : List Float → (old : List ℕ) → List ℕ
bytes_after xs old = after_verdict (write_refusal xs (length old)) (overwrite 0 (stl_bytes xs) old) old
