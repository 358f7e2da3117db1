-- What was written reads back equal, and what was read is written back byte for byte but for header, normals and attributes, over the
-- records of the two public calls.
use mathlib.Core.Path.{◌≡◌, refl}
use mathlib.Core.List.{List}
use Prim.Native.Nat.{ℕ, ◌*◌, ◌≤◌}
use native.Mathlib.Omega.{arith}
use lib.ListN.{length, take}
use lib.Ieee.{Float, binary32}
use Rattle.spec_tables.specs.Tables.{overwrite}
use Rattle.spec_tables.proofs.Pieces.{take_overwrite}
use Rattle.spec_records.specs.Little.{Bytes}
use Rattle.spec_lists.specs.Reading.{triangle_count}
use Rattle.spec_lists.specs.Refusals.{Verdict, passes, refused}
use Rattle.spec_lists.specs.Passed.{AllFit}
use Rattle.spec_stl.specs.Stl.{stl_count, stl_size, stl_triangles, stl_bytes, blanked}
use Rattle.spec_stl.specs.Calls as Calls
use Rattle.spec_stl.specs.Calls.{counted_by, read_refusal, triangles_after, write_refusal, bytes_after}
use Rattle.spec_stl.proofs.Facets.{length_read, count_read}
use Rattle.spec_stl.proofs.Kept.{size_right, read_passed, write_passed, write_passes, count_back, good_few, good_back, written_is_read, stl_kept}
use Rattle.std.specs.Prelude.{Result, Ok}
use Rattle.lists.specs.declared.refusal.Refusal.{Refusal}
use Rattle.stl.specs.Values.{as_counted, ReadIs, WrittenIs}

-- ---- an answer that is a count: the tests passed, and it is the count
count_parts : (v : Verdict) (count n : ℕ) → Calls.counted n ≡ counted_by v count → (v ≡ passes) × (n ≡ count)
count_parts passes count n e = (refl, cc)
count_parts (refused number place) count n e = absurd (let z : ◌≡◌ {A = ℕ} 0 1 = cc in omega arith)

-- ---- written, then read
-- the n bytes that were written, into a list with room, give the same triangles, bit for bit
pub written_then_read : (xs : List Float) → AllFit binary32 xs → {out out' : List ℕ} {n : ℕ} → WrittenIs xs out (Ok n) out'
    → {t t' : List Float} {r : Result ℕ Refusal} → 9 * triangle_count xs ≤ length t → ReadIs (take n out') t r t'
    → (as_counted r ≡ Calls.counted (triangle_count xs)) × (t' ≡ overwrite 0 xs t)
unfolding triangles_after bytes_after
written_then_read xs fit {out} {out'} {n} w {t} {t'} {r} room is =
    let parts = count_parts (write_refusal xs (length out)) (stl_size (triangle_count xs)) n w.answer in
    let good = (write_passed xs (length out) parts.0).triangles in
    let bytes : out' ≡ overwrite 0 (stl_bytes xs) out = rw parts.0 at w.bytes in
    let front : take n out' ≡ stl_bytes xs = rw (parts.1, bytes) (take_overwrite (stl_size (triangle_count xs)) (stl_bytes xs) out (size_right xs)) in
    let yes : read_refusal (stl_bytes xs) (length t) ≡ passes = written_is_read xs (length t) good fit room in
    let answer = rw (front, yes, count_back xs (good_few xs good)) at is.answer in
    let triangles = rw (front, yes, good_back xs good fit) at is.triangles in
    (answer, triangles)

-- ---- read, then written
-- the n triangles that were read, into bytes with room, give the bytes that were read, with zeros for header, normals and attributes
pub read_then_written : {s : List ℕ} → Bytes s → {t t' : List Float} {n : ℕ} → ReadIs s t (Ok n) t'
    → {out out' : List ℕ} {r : Result ℕ Refusal} → stl_size n ≤ length out → WrittenIs (take (9 * n) t') out r out'
    → (as_counted r ≡ Calls.counted (length s)) × (out' ≡ overwrite 0 (blanked s) out)
unfolding triangles_after bytes_after
read_then_written {s} ok {t} {t'} {n} is {out} {out'} {r} room w =
    let parts = count_parts (read_refusal s (length t)) (stl_count s) n is.answer in
    let reads = read_passed s (length t) parts.0 in
    let triangles : t' ≡ overwrite 0 (stl_triangles s) t = rw parts.0 at is.triangles in
    let front : take (9 * n) t' ≡ stl_triangles s = rw (parts.1, triangles) (take_overwrite (9 * stl_count s) (stl_triangles s) t (length_read s)) in
    let fits : stl_size (triangle_count (stl_triangles s)) ≤ length out = rw count_read (omega arith) in
    let yes : write_refusal (stl_triangles s) (length out) ≡ passes =
    write_passes (stl_triangles s) (length out) (record { triangles = reads.triangles; fits = fits }) in
    let answer = rw (front, yes, count_read s, ← reads.size) at w.answer in
    let bytes = rw (front, yes, stl_kept s ok (length t) parts.0) at w.bytes in
    (answer, bytes)
