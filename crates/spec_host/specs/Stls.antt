-- STLs for a C host: the contracts of reading one into a triangle list and of writing one. What is refused and what is left are the list calls'.
use Rattle.std.specs.Prelude.{ℕ, ◌≡◌, List, length, Float}
use Rattle.spec_lists.specs.Reading.{triangle_count}
use Rattle.spec_stl.specs.Stl.{stl_count, stl_size}
use Rattle.spec_stl.specs.Calls as Calls
use Rattle.spec_stl.specs.Calls.{Counted, read_refusal, triangles_after, write_refusal, bytes_after}
use Rattle.spec_host.specs.Status.{status, refusal_status, saturated, told_place, Placed}

-- reading answers r and leaves `new`; the status counts triangles
pub record ReadStlPut (stl : List ℕ) (old : List Float) (r : ℕ) (new : List Float) : Type 0 where
  pub status_is : r ≡ status (saturated (read_refusal stl (length old))) (stl_count stl)
  pub triangles_are : new ≡ triangles_after stl old

-- writing answers r and leaves `new`; the status counts bytes
pub record WriteStlPut (triangles : List Float) (old : List ℕ) (r : ℕ) (new : List ℕ) : Type 0 where
  pub status_is : r ≡ status (write_refusal triangles (length old)) (stl_size (triangle_count triangles))
  pub bytes_are : new ≡ bytes_after triangles old

-- ---- the list calls' answers as a status: a count, or a refusal
abbrev pub counted_status : Counted → ℕ
counted_status (Calls.refused number place) = refusal_status number (told_place place)
counted_status (Calls.counted n) = n

abbrev pub CountedPlaced : Counted → Type 0
CountedPlaced (Calls.refused number place) = Placed number (told_place place)
CountedPlaced (Calls.counted n) = Unit {0}
