-- The answers of the code as the definitions' own, and the contracts of the two calls.
use Rattle.std.specs.Prelude.{ℕ, ◌≡◌, List, length, Float, Result, Ok, Err}
use Rattle.spec_lists.specs.Reading.{triangle_count}
use Rattle.spec_stl.specs.Stl.{stl_count, stl_size}
use Rattle.spec_stl.specs.Calls as Calls
use Rattle.spec_stl.specs.Calls.{counted_by, read_refusal, triangles_after, write_refusal, bytes_after}
use Rattle.lists.specs.declared.refusal.Refusal.{Refusal}
use Rattle.lists.specs.Values.{number_of, place_of}

abbrev pub as_counted : Result ℕ Refusal → Calls.Counted
as_counted (Err r) = Calls.refused (number_of r) (place_of r)
as_counted (Ok n) = Calls.counted n

-- reading the bytes s answers r and leaves `new`; the count is of triangles
pub record ReadIs (s : List ℕ) (old : List Float) (r : Result ℕ Refusal) (new : List Float) : Type 0 where
  pub answer : as_counted r ≡ counted_by (read_refusal s (length old)) (stl_count s)
  pub triangles : new ≡ triangles_after s old

-- writing the triangles xs answers r and leaves `new`; the count is of bytes
pub record WrittenIs (xs : List Float) (old : List ℕ) (r : Result ℕ Refusal) (new : List ℕ) : Type 0 where
  pub answer : as_counted r ≡ counted_by (write_refusal xs (length old)) (stl_size (triangle_count xs))
  pub bytes : new ≡ bytes_after xs old
