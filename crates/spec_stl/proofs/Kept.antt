-- A triangle list that is written as an STL reads back equal, and an STL that is read is written back with count and corners byte for byte.
-- What reading accepts has passed 1 to 4, so every other call accepts it too.
use mathlib.Core.Path.{◌≡◌, refl, sym, ap, subst, ◌∙◌}
use mathlib.Core.Bool.{true, false}
use mathlib.Core.List.{List, [], ◌++◌, append-nil, append_assoc}
use Prim.Native.Nat.{ℕ, ◌+◌, ◌*◌, ◌%◌, ◌^◌, ◌≤◌, ◌<◌}
use native.Mathlib.Omega.{arith}
use borrow.Author.Tests.{eq-eqb, ne_eqb, lt-ltb}
use lib.Dec.{T, eqb}
use lib.ListN.{length, get_or, take, drop, length-replicate, length-append}
use lib.Seq.{take-length}
use lib.Ieee.{Float, binary32, nan, fits}
use lib.Ieee.Bits.{of_bits-fits}
use Rattle.spec_tables.specs.Tables.{concat_map, slice, Remaining}
use Rattle.spec_tables.proofs.Tables.{length_concat_map, concat_map_same, concat_map_slices, slice_concat_map, remaining_whole, remaining_front}
use Rattle.spec_tables.proofs.Each.{each_concat_map, each_at}
use Rattle.spec_tables.proofs.Pieces.{piece_within, remaining_concat_map, remaining_on, remaining_slice}
use Rattle.spec_numbers.proofs.Order.{finite_number}
use Rattle.spec_records.specs.Little.{little, of_little, little_at, Bytes}
use Rattle.spec_records.specs.Entries.{float_bytes, NoNan}
use Rattle.spec_records.proofs.Little.{length_little, number_remaining, number_back, two_at, four_at}
use Rattle.spec_records.proofs.Entries.{length_floats, floats_read, floats_written}
use Rattle.spec_lists.specs.Limits.{max_triangles}
use Rattle.spec_lists.specs.Reading.{triangle_count}
use Rattle.spec_lists.specs.Refusals.{Verdict, passes, refused, refuses, first_refusal, ragged_refusal, none_refusal, too_many_refusal, triangles_refusal}
use Rattle.spec_lists.specs.Passed.{AllFit, GoodTriangles}
use Rattle.spec_lists.proofs.Verdicts.{all_pass, then_passes}
use Rattle.spec_lists.proofs.Coordinates.{coordinate_finite}
use Rattle.spec_lists.proofs.Passed.{triangles_passed, triangles_pass, room_passed, room_passes}
use Rattle.spec_stl.specs.Stl.{stl_count, stl_size, corners_start, corners_in, stl_triangles, zeros, facet_bytes, stl_bytes, blanked}
use Rattle.spec_stl.specs.Calls.{size_refusal, read_refusal, write_refusal}
use Rattle.spec_stl.proofs.Facets.{length_corners, length_read, count_read}
use Rattle.spec_stl.proofs.Refused.{size_passed}

-- ---- sizes
module _ (xs : List Float) where
  length_facet : (i : ℕ) → length (facet_bytes xs i) ≡ 50
  unfolding facet_bytes
  length_facet i = simp (length-append, length-replicate, length_floats)

  -- an STL has the size that its count says: the room that writing needs, and what reading tests first
  pub size_right : length (stl_bytes xs) ≡ stl_size (triangle_count xs)
  unfolding stl_bytes
  size_right = simp (length-append, length_little, length_concat_map (facet_bytes xs) 50 (triangle_count xs) length_facet) (omega arith)

module _ (s : List ℕ) where
  -- a list that is read has whole triangles: reading never refuses with 1
  pub never_ragged : ragged_refusal (stl_triangles s) ≡ passes
  unfolding ragged_refusal
  never_ragged = rw (length_read s, eq-eqb (9 * stl_count s % 9) 0 (omega arith))

  -- bytes without a whole header and count are refused with 11, whatever stands in them
  pub short_is_refused : length s < 84 → size_refusal s ≡ refused 11 (length s)
  unfolding size_refusal
  short_is_refused h = rw (ne_eqb (length s) (stl_size (stl_count s)) (λ (e : length s ≡ stl_size (stl_count s)). omega arith))

  -- bytes of that size pass: 11 comes for no other reason
  pub size_passes : length s ≡ stl_size (stl_count s) → size_refusal s ≡ passes
  unfolding size_refusal
  size_passes e = rw (eq-eqb (length s) (stl_size (stl_count s)) e)

-- ---- what passes
-- bytes that are read have the size that their count says, good triangles, and room for them
pub record Reads (s : List ℕ) (room : ℕ) : Type 0 where
  pub size : length s ≡ stl_size (stl_count s)
  pub triangles : GoodTriangles (stl_triangles s)
  pub fits : 9 * stl_count s ≤ room

module _ (s : List ℕ) (room : ℕ) where
  -- what reading accepts has the right size, good triangles and room
  pub read_passed : read_refusal s room ≡ passes → Reads s room
  unfolding read_refusal
  read_passed e =
      let p = all_pass _ e in
      record {
        size = size_passed s p.0;
        triangles = triangles_passed (stl_triangles s) p.1.0;
        fits = room_passed room (9 * stl_count s) p.1.1.0;
      }

  -- such bytes are read: 11, 2 to 4 and 6 come for no other reason
  pub read_passes : Reads s room → read_refusal s room ≡ passes
  unfolding read_refusal
  read_passes g =
      then_passes _ (
        size_passes s g.size,
        (triangles_pass (stl_triangles s) g.triangles, (room_passes room (9 * stl_count s) g.fits, tt)),
      )

  -- what is read is good, as every other call wants its triangles
  pub read_is_good : read_refusal s room ≡ passes → GoodTriangles (stl_triangles s)
  read_is_good e = (read_passed e).triangles

  -- no call that takes triangles refuses with 1 to 4 what was read
  pub read_is_accepted : read_refusal s room ≡ passes → triangles_refusal (stl_triangles s) ≡ passes
  read_is_accepted e = triangles_pass (stl_triangles s) (read_is_good e)

  -- an STL of 65,536 triangles is the largest that is read
  pub largest_read : read_refusal s room ≡ passes → length s ≤ 3276884
  largest_read e = omega (arith, (read_passed e).size, (read_passed e).triangles.few, count_read s)

-- more facets than the limit are refused with 3, before their corners are looked at
pub too_many_is_refused : (s : List ℕ) (room : ℕ) → size_refusal s ≡ passes → max_triangles < stl_count s → read_refusal s room ≡ refused 3 0
unfolding read_refusal triangles_refusal none_refusal too_many_refusal first_refusal
too_many_is_refused s room e h =
    let some : eqb (stl_count s) 0 ≡ false = ne_eqb (stl_count s) 0 (λ (z : stl_count s ≡ 0). omega arith) in
    rw (e, never_ragged s, count_read s, some, lt-ltb max_triangles (stl_count s) h)

-- no text is read as an STL, be it as long as it may: where the count stands it has characters, and they make more than the limit
pub text_is_refused : (s : List ℕ) (room : ℕ) → 1 ≤ get_or s 83 0 → refuses (read_refusal s room) ≡ true
unfolding stl_count
text_is_refused s room h = go (read_refusal s room) refl
  where
    go : (v : Verdict) → read_refusal s room ≡ v → refuses v ≡ true
    go passes e =
        let reads = read_passed s room e in
        let long : 84 ≤ length s = omega (arith, reads.size) in
        let four = four_at s 80 (omega arith) in
        let high = two_at s 82 (omega arith) in
        absurd (omega (arith, four, high, reads.triangles.few, count_read s))
    go (refused number place) e = refl

-- triangles that are written are good, and there is room for their STL
pub record Writes (xs : List Float) (given : ℕ) : Type 0 where
  pub triangles : GoodTriangles xs
  pub fits : stl_size (triangle_count xs) ≤ given

module _ (xs : List Float) (given : ℕ) where
  -- what writing accepts is good and has room
  pub write_passed : write_refusal xs given ≡ passes → Writes xs given
  unfolding write_refusal
  write_passed e =
      let p = all_pass _ e in
      record { triangles = triangles_passed xs p.0; fits = room_passed given (stl_size (triangle_count xs)) p.1.0 }

  -- such triangles are written: 1 to 4 and 6 come for no other reason
  pub write_passes : Writes xs given → write_refusal xs given ≡ passes
  unfolding write_refusal
  write_passes g = then_passes _ (triangles_pass xs g.triangles, (room_passes given (stl_size (triangle_count xs)) g.fits, tt))

-- ---- written, then read
module _ (xs : List Float) where
  count_remaining : Remaining (stl_bytes xs) 80 (little 4 (triangle_count xs) ++ concat_map (facet_bytes xs) (triangle_count xs))
  unfolding stl_bytes
  count_remaining = remaining_on 80 (stl_bytes xs) 0 (zeros 80) _ refl (remaining_whole (stl_bytes xs))

  facets_remaining : Remaining (stl_bytes xs) 84 (concat_map (facet_bytes xs) (triangle_count xs) ++ [])
  facets_remaining = rw append-nil (remaining_on 4 (stl_bytes xs) 80 (little 4 (triangle_count xs)) _ (length_little 4 (triangle_count xs)) count_remaining)

  -- the corners stand behind the normal of their facet
  module _ (i : ℕ) (h : i < triangle_count xs) where
    abbrev corners : List ℕ
    corners = float_bytes binary32 xs (9 * i) 9

    abbrev rest : List ℕ
    rest = drop (84 + 50 * i + length (facet_bytes xs i)) (stl_bytes xs)

    corners_remaining : Remaining (stl_bytes xs) (corners_start i) (corners ++ (zeros 2 ++ rest))
    unfolding facet_bytes
    corners_remaining =
        let at : ℕ = 84 + 50 * i in
        let long : length (facet_bytes xs i) ≡ 50 = length_facet xs i in
        let facet : slice (stl_bytes xs) at 50 ≡ facet_bytes xs i =
        remaining_concat_map (facet_bytes xs) 50 (triangle_count xs) (stl_bytes xs) 84 [] (length_facet xs) facets_remaining i h in
        let within : at + length (facet_bytes xs i) ≤ length (stl_bytes xs) = omega (arith, size_right xs, piece_within 50 (triangle_count xs) i h) in
        remaining_on 12 (stl_bytes xs) at (zeros 12) _ refl
        (subst (Remaining (stl_bytes xs) at) (simp append_assoc)
        (remaining_slice (stl_bytes xs) at (facet_bytes xs i) within (ap (slice (stl_bytes xs) at) long ∙ facet)))

    -- the bytes of a triangle's corners are those of its nine numbers
    pub corners_written : slice (stl_bytes xs) (corners_start i) 36 ≡ float_bytes binary32 xs (9 * i) 9
    corners_written =
        ap (slice (stl_bytes xs) (corners_start i)) (sym (length_floats binary32 xs (9 * i) 9))
        ∙ remaining_front (stl_bytes xs) (corners_start i) corners _ corners_remaining

  module _ (few : triangle_count xs < 256 ^ 4) where
    -- the count that is written is read
    pub count_back : stl_count (stl_bytes xs) ≡ triangle_count xs
    unfolding stl_count
    count_back = number_remaining 4 (triangle_count xs) (stl_bytes xs) 80 _ few count_remaining

    -- what is written passes 11
    pub written_is_sized : size_refusal (stl_bytes xs) ≡ passes
    written_is_sized = size_passes (stl_bytes xs) (rw count_back (size_right xs))

    module _ (whole : length xs ≡ 9 * triangle_count xs) (fit : AllFit binary32 xs) where
      corners_back : (i : ℕ) → i < triangle_count xs → corners_in (stl_bytes xs) i ≡ slice xs (9 * i) 9
      unfolding corners_in
      corners_back i h =
          let within : 9 * i + 9 ≤ length xs = omega (arith, piece_within 9 (triangle_count xs) i h) in
          floats_read binary32 xs (9 * i) 9 (stl_bytes xs) (corners_start i) _ (λ j l. fit (9 * i + j) (omega arith)) within (corners_remaining i h)

      -- what is written reads back equal, bit for bit
      pub stl_back : stl_triangles (stl_bytes xs) ≡ xs
      unfolding stl_triangles
      stl_back =
          ap (concat_map (corners_in (stl_bytes xs))) count_back
          ∙ concat_map_same (corners_in (stl_bytes xs)) (λ i. slice xs (9 * i) 9) (triangle_count xs) corners_back
          ∙ concat_map_slices 9 xs (triangle_count xs)
          ∙ ap (λ (n : ℕ). take n xs) (sym whole)
          ∙ take-length xs

-- good triangles are fewer than a u32 counts, so the count of each list that is written is kept
pub good_few : (xs : List Float) → GoodTriangles xs → triangle_count xs < 256 ^ 4
good_few xs g = omega (arith, g.few)

-- what is written reads back equal, where its numbers are of binary32, as those of code are
pub good_back : (xs : List Float) → GoodTriangles xs → AllFit binary32 xs → stl_triangles (stl_bytes xs) ≡ xs
good_back xs g fit = stl_back xs (good_few xs g) g.whole fit

-- what is written is read, where there is room for its triangles
pub written_is_read : (xs : List Float) (room : ℕ) → GoodTriangles xs → AllFit binary32 xs → 9 * triangle_count xs ≤ room
    → read_refusal (stl_bytes xs) room ≡ passes
written_is_read xs room g fit h =
    let few = good_few xs g in
    read_passes (stl_bytes xs) room (record {
      size = rw (count_back xs few) (size_right xs);
      triangles = rw (good_back xs g fit) g;
      fits = rw (count_back xs few) h;
    })

-- ---- read, then written
-- a facet of what is kept
abbrev blank_facet : List ℕ → ℕ → List ℕ
blank_facet s i = zeros 12 ++ (slice s (corners_start i) 36 ++ zeros 2)

-- count and corners alone say what is kept
same_blanked : (s t : List ℕ) → slice s 80 4 ≡ slice t 80 4 → ((i : ℕ) → i < stl_count s → slice s (corners_start i) 36 ≡ slice t (corners_start i) 36)
    → blanked s ≡ blanked t
unfolding blanked stl_count little_at
same_blanked s t number corners =
    let facets : concat_map (blank_facet s) (stl_count s) ≡ concat_map (blank_facet t) (stl_count s) =
    concat_map_same _ _ (stl_count s) (λ i h. ap (λ (l : List ℕ). zeros 12 ++ (l ++ zeros 2)) (corners i h)) in
    ap (λ (l : List ℕ). zeros 80 ++ (slice s 80 4 ++ l)) facets
    ∙ ap (λ (l : List ℕ). zeros 80 ++ (l ++ concat_map (blank_facet t) (of_little l))) number

module _ (s : List ℕ) where
  -- numbers that are read are values of binary32, so they can be written again
  pub read_all_fit : AllFit binary32 (stl_triangles s)
  unfolding stl_triangles corners_in
  read_all_fit k h =
      let fit : Float → Type 0 = λ (x : Float). T (fits binary32 x) in
      each_at fit (stl_triangles s) k nan h
      (each_concat_map fit (corners_in s) (stl_count s) (λ i. each_concat_map fit _ 9 (λ j. (of_bits-fits binary32 _, tt))))

  module _ (ok : Bytes s) (room : ℕ) (read : read_refusal s room ≡ passes) where
    reads : Reads s room
    reads = read_passed s room read

    -- no number that is read is a NaN, of which there are many patterns
    numbers : NoNan (stl_triangles s) (9 * stl_count s)
    numbers i h = finite_number _ (coordinate_finite _ (reads.triangles.coordinates i (omega (arith, length_read s))))

    corners_rewritten : (i : ℕ) → i < stl_count s → float_bytes binary32 (stl_triangles s) (9 * i) 9 ≡ slice s (corners_start i) 36
    unfolding stl_triangles corners_in
    corners_rewritten i h =
        let nine : 9 * i + 9 ≤ 9 * stl_count s = piece_within 9 (stl_count s) i h in
        let within : corners_start i + 36 ≤ length s = omega (arith, reads.size, piece_within 50 (stl_count s) i h) in
        let facet : slice (stl_triangles s) (9 * i) 9 ≡ corners_in s i = slice_concat_map (corners_in s) 9 (stl_count s) i (length_corners s) h in
        floats_written binary32 (stl_triangles s) (9 * i) s (corners_start i) 9 ok within (λ j l. numbers j (omega arith)) facet

    number_kept : little 4 (stl_count s) ≡ slice s 80 4
    unfolding stl_count
    number_kept = number_back 4 s 80 ok (omega (arith, reads.size))

    -- what was read is written back byte for byte, -0 and all, with zeros for header, normals and attributes
    pub stl_kept : stl_bytes (stl_triangles s) ≡ blanked s
    unfolding stl_bytes facet_bytes blanked
    stl_kept =
        let facets : concat_map (facet_bytes (stl_triangles s)) (stl_count s) ≡ concat_map (blank_facet s) (stl_count s) =
        concat_map_same _ _ (stl_count s) (λ i h. ap (λ (l : List ℕ). zeros 12 ++ (l ++ zeros 2)) (corners_rewritten i h)) in
        ap (λ (n : ℕ). zeros 80 ++ (little 4 n ++ concat_map (facet_bytes (stl_triangles s)) n)) (count_read s)
        ∙ ap (λ (l : List ℕ). zeros 80 ++ (l ++ concat_map (facet_bytes (stl_triangles s)) (stl_count s))) number_kept
        ∙ ap (λ (l : List ℕ). zeros 80 ++ (slice s 80 4 ++ l)) facets

    -- each triangle's corners are written as the bytes that they were read from
    pub corners_kept : (i : ℕ) → i < stl_count s → slice (stl_bytes (stl_triangles s)) (corners_start i) 36 ≡ slice s (corners_start i) 36
    corners_kept i h = corners_written (stl_triangles s) i (rw count_read h) ∙ corners_rewritten i h

    -- the STL that is written has the size of the one that was read
    pub size_kept : length (blanked s) ≡ length s
    size_kept = ap length (sym stl_kept) ∙ size_right (stl_triangles s) ∙ ap stl_size (count_read s) ∙ sym reads.size

    -- header, normals and attributes say nothing of the triangles
    pub triangles_kept : stl_triangles (blanked s) ≡ stl_triangles s
    triangles_kept = ap stl_triangles (sym stl_kept) ∙ good_back (stl_triangles s) reads.triangles read_all_fit

    number_rewritten : slice (stl_bytes (stl_triangles s)) 80 4 ≡ slice s 80 4
    number_rewritten =
        ap (slice (stl_bytes (stl_triangles s)) 80) (sym (length_little 4 (triangle_count (stl_triangles s))))
        ∙ remaining_front (stl_bytes (stl_triangles s)) 80 (little 4 (triangle_count (stl_triangles s))) _ (count_remaining (stl_triangles s))
        ∙ ap (little 4) (count_read s) ∙ number_kept

    -- once is enough: what was blanked stays as it is
    pub kept_again : blanked (blanked s) ≡ blanked s
    kept_again = ap blanked (sym stl_kept) ∙ sym (same_blanked s (stl_bytes (stl_triangles s)) (sym number_rewritten) (λ i h. sym (corners_kept i h)))
