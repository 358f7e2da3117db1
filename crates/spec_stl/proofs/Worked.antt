-- An STL of two triangles, written down byte by byte from the format's description: what is read of it, what is written of that, and
-- what is refused where one thing in it is wrong.
use mathlib.Core.Path.{◌≡◌, refl}
use mathlib.Core.Bool.{true, false}
use mathlib.Core.List.{List, [], ◌∷◌, ◌++◌}
use Prim.Native.Nat.{ℕ}
use lib.IntN.{pos, negsuc}
use lib.ListN.{take, replicate}
use lib.Ieee.{Float, nan, fin, le, of_bits, to_bits}
use Rattle.spec_tables.specs.Tables.{overwrite, concat_map}
use Rattle.spec_records.specs.Little.{little, of_little, little_at}
use Rattle.spec_lists.specs.Reading.{triangle_count}
use Rattle.spec_lists.specs.Refusals as Refusals
use Rattle.spec_lists.specs.Refusals.{passes, first_refusal, is_coordinate, first_bad, ragged_refusal, none_refusal, too_many_refusal, coordinate_refusal, triangles_refusal, room_refusal}
use Rattle.spec_stl.specs.Stl.{stl_count, corners_in, stl_triangles, facet_bytes, stl_bytes, blanked}
use Rattle.spec_stl.specs.Calls.{counted_by, refused, counted, size_refusal, read_refusal, triangles_after, write_refusal, bytes_after}

-- ---- the bytes
-- a header that begins with `solid`, as that of a text STL does: a header says nothing
abbrev header : List ℕ
header = 115 ∷ 111 ∷ 108 ∷ 105 ∷ 100 ∷ replicate 75 32

-- corners (1, -0, 0.1), (2, -2.5, 3), (0.5, 4, 2^20)
abbrev first : List ℕ
first = 0 ∷ 0 ∷ 128 ∷ 63 ∷ 0 ∷ 0 ∷ 0 ∷ 128 ∷ 205 ∷ 204 ∷ 204 ∷ 61 ∷ 0 ∷ 0 ∷ 0 ∷ 64 ∷ 0 ∷ 0 ∷ 32 ∷ 192 ∷ 0 ∷ 0 ∷ 64 ∷ 64
    ∷ 0 ∷ 0 ∷ 0 ∷ 63 ∷ 0 ∷ 0 ∷ 128 ∷ 64 ∷ 0 ∷ 0 ∷ 128 ∷ 73 ∷ []

-- corners (-2^20, 2^-149, 5), (6, m, 8), (9, 10, 100), m by its bytes
abbrev second_with : (m : List ℕ) → List ℕ
second_with m = (0 ∷ 0 ∷ 128 ∷ 201 ∷ 1 ∷ 0 ∷ 0 ∷ 0 ∷ 0 ∷ 0 ∷ 160 ∷ 64 ∷ 0 ∷ 0 ∷ 192 ∷ 64 ∷ []) ++ (m ++ (0 ∷ 0 ∷ 0 ∷ 65
    ∷ 0 ∷ 0 ∷ 16 ∷ 65 ∷ 0 ∷ 0 ∷ 32 ∷ 65 ∷ 0 ∷ 0 ∷ 200 ∷ 66 ∷ []))

-- normals (0, 0, 1) and (NaN, infinity, 0), attributes 32767 and 1
abbrev file_with : (count : ℕ) (m : List ℕ) → List ℕ
file_with count m =
    header ++ (count ∷ 0 ∷ 0 ∷ 0 ∷ [])
    ++ (0 ∷ 0 ∷ 0 ∷ 0 ∷ 0 ∷ 0 ∷ 0 ∷ 0 ∷ 0 ∷ 0 ∷ 128 ∷ 63 ∷ []) ++ first ++ (255 ∷ 127 ∷ [])
    ++ (0 ∷ 0 ∷ 192 ∷ 127 ∷ 0 ∷ 0 ∷ 128 ∷ 127 ∷ 0 ∷ 0 ∷ 0 ∷ 0 ∷ []) ++ second_with m ++ (1 ∷ 0 ∷ [])

-- 7
abbrev seven : List ℕ
seven = 0 ∷ 0 ∷ 224 ∷ 64 ∷ []

abbrev file : List ℕ
file = file_with 2 seven

-- the same with zeros for header, normals and attributes
abbrev plain : List ℕ
plain = replicate 80 0 ++ (2 ∷ 0 ∷ 0 ∷ 0 ∷ []) ++ replicate 12 0 ++ first ++ (0 ∷ 0 ∷ []) ++ replicate 12 0 ++ second_with seven ++ (0 ∷ 0 ∷ [])

-- ---- the triangles
abbrev list_with : (m : Float) → List Float
list_with m = fin false 1 (pos 0) ∷ fin true 0 (pos 0) ∷ fin false 13421773 (negsuc 26) ∷ fin false 1 (pos 1) ∷ fin true 5 (negsuc 0) ∷ fin false 3 (pos 0)
    ∷ fin false 1 (negsuc 0) ∷ fin false 1 (pos 2) ∷ fin false 1 (pos 20)
    ∷ fin true 1 (pos 20) ∷ fin false 1 (negsuc 148) ∷ fin false 5 (pos 0) ∷ fin false 3 (pos 1) ∷ m ∷ fin false 1 (pos 3)
    ∷ fin false 9 (pos 0) ∷ fin false 5 (pos 1) ∷ fin false 25 (pos 2) ∷ []

abbrev list : List Float
list = list_with (fin false 7 (pos 0))

-- ---- read and written
-- the nine numbers of each facet are read, in the order of the file, each with its sign and all its digits
pub read_worked : (stl_count file ≡ 2) × (stl_triangles file ≡ list)
unfolding of_bits concat_map of_little little_at stl_count corners_in stl_triangles
read_worked = (refl, refl)

-- each field is written at its place, with zeros for what a list does not hold
pub written_worked : stl_bytes list ≡ plain
unfolding to_bits concat_map little triangle_count facet_bytes stl_bytes
written_worked = refl

-- what a reader keeps: count and corners
pub blanked_worked : blanked file ≡ plain
unfolding concat_map of_little little_at stl_count blanked
blanked_worked = refl

-- ---- read_stl refuses
-- NaN, infinity, and the first number above 2^20
abbrev no_number : List ℕ
no_number = 1 ∷ 0 ∷ 160 ∷ 127 ∷ []

abbrev infinite : List ℕ
infinite = 0 ∷ 0 ∷ 128 ∷ 255 ∷ []

abbrev too_far : List ℕ
too_far = 1 ∷ 0 ∷ 128 ∷ 73 ∷ []

-- it passes with room for its 18 numbers and no byte more or less; no bytes, and too few for a count; a byte too many, a byte too few,
-- a facet too few, the count one too high and one too low, a count of which the highest byte is not 0
pub sizes_worked :
    (read_refusal file 18 ∷ read_refusal [] 18 ∷ read_refusal (replicate 83 0) 18
    ∷ read_refusal (file ++ (0 ∷ [])) 18 ∷ read_refusal (take 183 file) 18 ∷ read_refusal (take 134 file) 18
    ∷ read_refusal (file_with 3 seven) 18 ∷ read_refusal (file_with 1 seven) 18 ∷ read_refusal (overwrite 83 (1 ∷ []) file) 18 ∷ [])
    ≡ (passes ∷ Refusals.refused 11 0 ∷ Refusals.refused 11 83
    ∷ Refusals.refused 11 185 ∷ Refusals.refused 11 183 ∷ Refusals.refused 11 134
    ∷ Refusals.refused 11 184 ∷ Refusals.refused 11 184 ∷ Refusals.refused 11 184 ∷ [])
unfolding le of_bits overwrite concat_map of_little little_at stl_count corners_in stl_triangles triangle_count first_refusal is_coordinate first_bad
    ragged_refusal none_refusal too_many_refusal coordinate_refusal triangles_refusal room_refusal size_refusal read_refusal
sizes_worked = refl

-- no facets; a bad coordinate in the second facet, at its index in the list; room for 17 numbers, and for 2
pub contents_worked :
    (read_refusal (replicate 84 0) 18
    ∷ read_refusal (file_with 2 no_number) 18 ∷ read_refusal (file_with 2 infinite) 18 ∷ read_refusal (file_with 2 too_far) 18
    ∷ read_refusal file 17 ∷ read_refusal file 2 ∷ [])
    ≡ (Refusals.refused 2 0
    ∷ Refusals.refused 4 13 ∷ Refusals.refused 4 13 ∷ Refusals.refused 4 13
    ∷ Refusals.refused 6 0 ∷ Refusals.refused 6 0 ∷ [])
unfolding le of_bits concat_map of_little little_at stl_count corners_in stl_triangles triangle_count first_refusal is_coordinate first_bad
    ragged_refusal none_refusal too_many_refusal coordinate_refusal triangles_refusal room_refusal size_refusal read_refusal
contents_worked = refl

-- of two things that are wrong the first is named: 11 before 2, before 4 and before 6; 4 before 6
pub order_worked :
    (read_refusal (replicate 85 0) 0 ∷ read_refusal (file_with 2 no_number ++ (0 ∷ [])) 18 ∷ read_refusal (take 183 file) 0
    ∷ read_refusal (file_with 2 no_number) 17 ∷ [])
    ≡ (Refusals.refused 11 85 ∷ Refusals.refused 11 185 ∷ Refusals.refused 11 183 ∷ Refusals.refused 4 13 ∷ [])
unfolding le of_bits concat_map of_little little_at stl_count corners_in stl_triangles triangle_count first_refusal is_coordinate first_bad
    ragged_refusal none_refusal too_many_refusal coordinate_refusal triangles_refusal room_refusal size_refusal read_refusal
order_worked = refl

-- ---- write_stl refuses
-- it passes with room for its 184 bytes; one number more than whole triangles; none; a bad coordinate; 183 bytes; 4 before 6
pub writing_worked :
    (write_refusal list 184 ∷ write_refusal (nan ∷ list) 184 ∷ write_refusal [] 184 ∷ write_refusal (list_with nan) 184 ∷ write_refusal list 183
    ∷ write_refusal (list_with nan) 183 ∷ [])
    ≡ (passes ∷ Refusals.refused 1 0 ∷ Refusals.refused 2 0 ∷ Refusals.refused 4 13 ∷ Refusals.refused 6 0 ∷ Refusals.refused 4 13 ∷ [])
unfolding le triangle_count first_refusal is_coordinate first_bad ragged_refusal none_refusal too_many_refusal coordinate_refusal triangles_refusal room_refusal
    write_refusal
writing_worked = refl

-- ---- what is lent, afterwards
-- the triangles stand at the front, the 19th and 20th number are as they were; after a refusal all are
pub lent_triangles_worked :
    (triangles_after file (replicate 20 nan) ≡ list ++ (nan ∷ nan ∷ [])) × (triangles_after file (replicate 17 nan) ≡ replicate 17 nan)
unfolding le of_bits overwrite concat_map of_little little_at stl_count corners_in stl_triangles triangle_count first_refusal is_coordinate first_bad
    ragged_refusal none_refusal too_many_refusal coordinate_refusal triangles_refusal room_refusal size_refusal read_refusal triangles_after
lent_triangles_worked = (refl, refl)

-- the STL stands at the front, the 185th byte is as it was; after a refusal all are
pub lent_bytes_worked : (bytes_after list (replicate 185 9) ≡ plain ++ (9 ∷ [])) × (bytes_after list (replicate 183 9) ≡ replicate 183 9)
unfolding le to_bits overwrite concat_map little facet_bytes stl_bytes triangle_count first_refusal is_coordinate first_bad
    ragged_refusal none_refusal too_many_refusal coordinate_refusal triangles_refusal room_refusal write_refusal bytes_after
lent_bytes_worked = (refl, refl)

-- an answer is the count, or the number and place of the refusal
pub answers_worked : (counted_by passes 2 ≡ counted 2) × (counted_by (Refusals.refused 4 13) 2 ≡ refused 4 13)
answers_worked = (refl, refl)
