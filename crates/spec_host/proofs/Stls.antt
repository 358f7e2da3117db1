-- The calls over STLs for a C host: every verdict can be encoded, the statuses are decoded without loss, what was read is a drawing's triangle list,
-- what was written reads back, and the contracts leave nothing open.
use mathlib.Core.Path.{◌≡◌, refl, sym, ap, ◌∙◌, subst}
use mathlib.Core.Bool.{not}
use mathlib.Core.List.{List, [], ◌∷◌, ◌++◌}
use Prim.Native.Nat.{ℕ, ◌*◌, ◌^◌, ◌≤◌, ◌<◌}
use native.Mathlib.Omega.{arith}
use borrow.Author.Tests.{ne_eqb}
use lib.Dec.{eqb}
use lib.ListN.{length, take, replicate}
use lib.Ieee.{Float, nan, binary32, le, of_bits}
use Rattle.spec_numbers.specs.Values.{zero}
use Rattle.spec_tables.specs.Tables.{concat_map}
use Rattle.spec_tables.proofs.Pieces.{take_overwrite}
use Rattle.spec_lists.specs.Reading.{triangle_count}
use Rattle.spec_records.specs.Little.{of_little, little_at, Bytes}
use Rattle.spec_lists.specs.Refusals.{Verdict, passes, refused, first_refusal, is_coordinate, first_bad}
use Rattle.spec_lists.specs.Refusals.{ragged_refusal, none_refusal, too_many_refusal, coordinate_refusal, triangles_refusal, room_refusal}
use Rattle.spec_lists.specs.Passed.{AllFit}
use Rattle.spec_lists.proofs.Verdicts.{refused_by}
use Rattle.spec_stl.specs.Stl.{stl_count, stl_size, corners_in, stl_triangles, stl_bytes, blanked}
use Rattle.spec_stl.specs.Calls.{Counted, counted_by, size_refusal, read_refusal, triangles_after, write_refusal, bytes_after}
use Rattle.spec_stl.proofs.Facets.{length_read, count_read}
use Rattle.spec_stl.proofs.Kept.{size_right, read_passed, read_is_good, read_is_accepted, largest_read, write_passed, write_passes, count_back, good_few, good_back, written_is_read, stl_kept}
use Rattle.spec_host.specs.Status.{status, refusal_status, told_place, saturated, status_number, InPlace, Decoded}
use Rattle.spec_host.specs.Stls.{ReadStlPut, WriteStlPut, counted_status, CountedPlaced}
use Rattle.spec_host.proofs.Status.{decoded, done_below, Told, told_if, no_told, then_told, told_encodable, told_whole, cut_told, triangles_told, room_told}

-- ---- verdicts that can be encoded
module _ (s : List ℕ) (room : ℕ) where
  abbrev rest : Verdict
  rest = first_refusal (triangles_refusal (stl_triangles s) ∷ room_refusal room (9 * stl_count s) ∷ [])

  rest_told : Told rest
  rest_told = then_told _ _ (triangles_told (stl_triangles s)) (λ _. then_told _ _ (room_told room (9 * stl_count s)) (λ _. no_told))

  read_told : length s < 2 ^ 56 → Told (read_refusal s room)
  unfolding read_refusal size_refusal
  read_told h = then_told _ _ (told_if (not (eqb (length s) (stl_size (stl_count s)))) 11 (length s) (omega arith) (omega arith) (λ _. h)) (λ _. rest_told)

  cut_read : Told (saturated (read_refusal s room))
  unfolding read_refusal size_refusal first_refusal
  cut_read = go (size_refusal s) refl
    where
      go : (v : Verdict) → size_refusal s ≡ v
          → Told (saturated (first_refusal (v ∷ triangles_refusal (stl_triangles s) ∷ room_refusal room (9 * stl_count s) ∷ [])))
      go passes e = rw (told_whole rest rest_told) rest_told
      go (refused number place) e =
          let is = (refused_by (not (eqb (length s) (stl_size (stl_count s)))) 11 (length s) number place e).1.0 in
          cut_told number place (omega arith) (omega arith)

  -- every verdict of reading can be encoded in the status, however many bytes there are
  pub read_stl_encodable : InPlace (saturated (read_refusal s room))
  read_stl_encodable = told_encodable (saturated (read_refusal s room)) cut_read

write_told : (xs : List Float) (given : ℕ) → Told (write_refusal xs given)
unfolding write_refusal
write_told xs given = then_told _ _ (triangles_told xs) (λ _. then_told _ _ (room_told given _) (λ _. no_told))

-- every verdict of writing can be encoded
pub write_stl_encodable : (xs : List Float) (given : ℕ) → InPlace (write_refusal xs given)
write_stl_encodable xs given = told_encodable (write_refusal xs given) (write_told xs given)

-- ---- what is encoded: the list calls' answers are those of the status
module _ (v : Verdict) (count : ℕ) (a : Counted) (e : a ≡ counted_by v count) where
  counted_placed : InPlace (saturated v) → CountedPlaced a
  counted_placed h = subst CountedPlaced (sym e) (go v h)
    where
      go : (v : Verdict) → InPlace (saturated v) → CountedPlaced (counted_by v count)
      go passes h = tt
      go (refused number place) h = h

  counted_status_lem : counted_status a ≡ status (saturated v) count
  counted_status_lem = ap counted_status e ∙ go v
    where
      go : (v : Verdict) → counted_status (counted_by v count) ≡ status (saturated v) count
      go passes = refl
      go (refused number place) = refl

-- the answer of reading can be encoded
pub read_stl_placed : (s : List ℕ) (room : ℕ) (a : Counted) → a ≡ counted_by (read_refusal s room) (stl_count s) → CountedPlaced a
read_stl_placed s room a e = counted_placed (read_refusal s room) (stl_count s) a e (read_stl_encodable s room)

-- and encoded, with the triangles that it leaves, keeps the contract
pub read_stl_put : {s : List ℕ} {old new : List Float} {r : ℕ} (a : Counted) → a ≡ counted_by (read_refusal s (length old)) (stl_count s)
    → r ≡ counted_status a → new ≡ triangles_after s old → ReadStlPut s old r new
read_stl_put {s} {old} a e b f = record { status_is = b ∙ counted_status_lem (read_refusal s (length old)) (stl_count s) a e; triangles_are = f }

-- the answer of writing can be encoded
pub write_stl_placed : (xs : List Float) (given : ℕ) (a : Counted) → a ≡ counted_by (write_refusal xs given) (stl_size (triangle_count xs)) → CountedPlaced a
write_stl_placed xs given a e =
    counted_placed (write_refusal xs given) (stl_size (triangle_count xs)) a e
    (rw (told_whole (write_refusal xs given) (write_told xs given)) (write_stl_encodable xs given))

-- and encoded, with the bytes that it leaves, keeps the contract: of writing's places none is cut
pub write_stl_put : {xs : List Float} {old new : List ℕ} {r : ℕ} (a : Counted) → a ≡ counted_by (write_refusal xs (length old)) (stl_size (triangle_count xs))
    → r ≡ counted_status a → new ≡ bytes_after xs old → WriteStlPut xs old r new
write_stl_put {xs} {old} a e b f =
    let v = write_refusal xs (length old) in
    let count = stl_size (triangle_count xs) in
    record { status_is = b ∙ counted_status_lem v count a e ∙ ap (λ (w : Verdict). status w count) (told_whole v (write_told xs (length old))); bytes_are = f }

-- ---- the status is decoded
module _ (s : List ℕ) (room : ℕ) where
  -- the status of reading is decoded without loss, of every slice that a machine can address
  pub read_stl_decoded : length s < 2 ^ 56 → Decoded (read_refusal s room) (stl_count s) (status (saturated (read_refusal s room)) (stl_count s))
  read_stl_decoded h =
      let v = read_refusal s room in
      let told = read_told s room h in
      rw (told_whole v told) (decoded v (stl_count s) (told_encodable v told)
      (λ e. omega (arith, count_read s, (read_is_good s room e).few)))

  -- and of a longer one the place alone is cut: bytes of a wrong size answer 11 whatever their number
  pub wrong_size_number : (length s ≡ stl_size (stl_count s) → ⊥) → status_number (status (saturated (read_refusal s room)) (stl_count s)) ≡ 11
  unfolding read_refusal size_refusal first_refusal
  wrong_size_number wrong =
      let no = ne_eqb (length s) (stl_size (stl_count s)) wrong in
      let v : read_refusal s room ≡ refused 11 (length s) = rw no in
      let cut = saturated (refused 11 (length s)) in
      rw v (decoded cut (stl_count s) (told_encodable cut (cut_told 11 (length s) (omega arith) (omega arith))) (λ e. absurd (never e))).0
    where
      never : refused 11 (told_place (length s)) ≡ passes → ⊥
      never e = let z : ◌≡◌ {A = ℕ} 0 1 = cc in omega arith

-- the status of writing is decoded without loss
pub write_stl_decoded : (xs : List Float) (given : ℕ)
    → Decoded (write_refusal xs given) (stl_size (triangle_count xs)) (status (write_refusal xs given) (stl_size (triangle_count xs)))
write_stl_decoded xs given =
    decoded (write_refusal xs given) (stl_size (triangle_count xs)) (write_stl_encodable xs given)
    (λ e. omega (arith, (write_passed xs given e).triangles.few))

-- ---- what a host has: a status below 2^56 says that the call is done
saturated_passes : (v : Verdict) → saturated v ≡ passes → v ≡ passes
saturated_passes passes e = refl
saturated_passes (refused number place) e = absurd (let z : ◌≡◌ {A = ℕ} 0 1 = cc in omega arith)

module _ {s : List ℕ} {old new : List Float} {r : ℕ} (p : ReadStlPut s old r new) (low : r < 2 ^ 56) where
  reads : read_refusal s (length old) ≡ passes
  reads = saturated_passes _ (done_below _ (stl_count s) (read_stl_encodable s (length old)) (rw p.status_is at low))

  -- it counts the triangles
  pub read_count : r ≡ stl_count s
  read_count = rw reads at p.status_is

  -- which stand at the front of the list
  pub read_front : take (9 * r) new ≡ stl_triangles s
  unfolding triangles_after
  read_front = rw (read_count, rw reads at p.triangles_are) (take_overwrite (9 * stl_count s) (stl_triangles s) old (length_read s))

  -- and pass the tests: no other call refuses them with 1 to 4
  pub stl_is_a_drawing : triangles_refusal (take (9 * r) new) ≡ passes
  stl_is_a_drawing = rw read_front (read_is_accepted s (length old) reads)

module _ {xs : List Float} {old new : List ℕ} {r : ℕ} (p : WriteStlPut xs old r new) (low : r < 2 ^ 56) where
  writes : write_refusal xs (length old) ≡ passes
  writes = done_below _ (stl_size (triangle_count xs)) (write_stl_encodable xs (length old)) (rw p.status_is at low)

  -- it counts the bytes of the STL, which stands at the front
  pub write_front : take r new ≡ stl_bytes xs
  unfolding bytes_after
  write_front =
      let size : r ≡ stl_size (triangle_count xs) = rw writes at p.status_is in
      rw (size, rw writes at p.bytes_are) (take_overwrite (stl_size (triangle_count xs)) (stl_bytes xs) old (size_right xs))

-- ---- and back
-- what is written is read again into any list that is long enough, and it is the same triangles
pub read_again : {xs : List Float} {old new : List ℕ} {r : ℕ} → WriteStlPut xs old r new → r < 2 ^ 56 → AllFit binary32 xs
    → {lent after : List Float} {n : ℕ} → ReadStlPut (take r new) lent n after → length xs ≤ length lent
    → (n ≡ triangle_count xs) × (take (9 * n) after ≡ xs)
read_again {xs} {old} p low fit {lent} {after} {n} q room =
    let good = (write_passed xs (length old) (writes p low)).triangles in
    let back : ReadStlPut (stl_bytes xs) lent n after = rw (write_front p low) at q in
    let passed = written_is_read xs (length lent) good fit (omega (arith, good.whole)) in
    let count : n ≡ triangle_count xs = rw passed at back.status_is ∙ count_back xs (good_few xs good) in
    (count, read_front back (omega (arith, good.few)) ∙ good_back xs good fit)

-- what is read is written again into any bytes that are enough: as many bytes, the same but for header, normals and attributes, which are zeros
pub written_again : {s : List ℕ} {old new : List Float} {r : ℕ} → ReadStlPut s old r new → r < 2 ^ 56 → Bytes s
    → {out after : List ℕ} {n : ℕ} → WriteStlPut (take (9 * r) new) out n after → length s ≤ length out
    → (n ≡ length s) × (take n after ≡ blanked s)
written_again {s} {old} p low ok {out} {after} {n} q room =
    let read = reads p low in
    let back : WriteStlPut (stl_triangles s) out n after = rw (read_front p low) at q in
    let size : stl_size (triangle_count (stl_triangles s)) ≡ length s = ap stl_size (count_read s) ∙ sym (read_passed s (length old) read).size in
    let passed = write_passes (stl_triangles s) (length out) (record { triangles = read_is_good s (length old) read; fits = rw size room }) in
    let count : n ≡ length s = rw passed at back.status_is ∙ size in
    (count, write_front back (omega (arith, largest_read s (length old) read)) ∙ stl_kept s ok (length old) read)

-- ---- the contracts leave nothing open
-- status and triangles of reading are fixed by the bytes and the list
pub read_stl_unique : {s : List ℕ} {old new new₂ : List Float} {r r₂ : ℕ} → ReadStlPut s old r new → ReadStlPut s old r₂ new₂ → (r ≡ r₂) × (new ≡ new₂)
read_stl_unique p q = (p.status_is ∙ sym q.status_is, p.triangles_are ∙ sym q.triangles_are)

-- status and bytes of writing
pub write_stl_unique : {xs : List Float} {old new new₂ : List ℕ} {r r₂ : ℕ} → WriteStlPut xs old r new → WriteStlPut xs old r₂ new₂
    → (r ≡ r₂) × (new ≡ new₂)
write_stl_unique p q = (p.status_is ∙ sym q.status_is, p.bytes_are ∙ sym q.bytes_are)

-- ---- worked
-- the last place that 56 bits hold is told as it is, and the next one as the last
pub places_worked : (told_place 72057594037927935 ≡ 72057594037927935) × (told_place 72057594037927936 ≡ 72057594037927935)
places_worked = (refl, refl)

-- one facet, all zeros
abbrev facet : List ℕ
facet = replicate 80 0 ++ (1 ∷ 0 ∷ 0 ∷ 0 ∷ replicate 50 0)

-- three bytes are no STL, which is 11 at 3; one facet is one triangle, in room for nine numbers
pub reading_worked : {new : List Float} {r : ℕ} → (ReadStlPut (1 ∷ 2 ∷ 3 ∷ []) [] r new → r ≡ 792633534417207299)
    × (ReadStlPut facet (replicate 9 nan) r new → r ≡ 1)
unfolding le triangle_count first_refusal is_coordinate first_bad ragged_refusal none_refusal too_many_refusal coordinate_refusal triangles_refusal room_refusal
    concat_map little_at of_little of_bits stl_count corners_in stl_triangles size_refusal read_refusal refusal_status
reading_worked = (λ p. p.status_is, λ p. p.status_is)

-- one triangle is 134 bytes, and 133 are no room for it
pub writing_worked : {new : List ℕ} {r : ℕ} → (WriteStlPut (replicate 9 zero) (replicate 134 1) r new → r ≡ 134)
    × (WriteStlPut (replicate 9 zero) (replicate 133 1) r new → r ≡ 432345564227567616)
unfolding le triangle_count first_refusal is_coordinate first_bad ragged_refusal none_refusal too_many_refusal coordinate_refusal triangles_refusal room_refusal
    write_refusal refusal_status
writing_worked = (λ p. p.status_is, λ p. p.status_is)
