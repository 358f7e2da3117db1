-- Binary STL, little-endian: a header of 80 bytes, a u32 count, then a facet of 50 bytes for each triangle: its normal, its three corners, a u16
-- attribute. Reading drops header, normals and attributes; writing gives zeros for all three.
use Rattle.std.specs.Prelude.{ℕ, ◌+◌, ◌*◌, List, ◌++◌, replicate, Float}
use Rattle.std.specs.Float.{binary32}
use Rattle.spec_tables.specs.Tables.{concat_map, slice}
use Rattle.spec_records.specs.Little.{little, little_at}
use Rattle.spec_records.specs.Entries.{float_bytes, floats_in}
use Rattle.spec_lists.specs.Reading.{triangle_count}

-- how many triangles the bytes say that they hold
unfoldable pub stl_count : List ℕ → ℕ
stl_count s = little_at 4 s 80

-- how many bytes so many triangles take
abbrev pub stl_size : (count : ℕ) → ℕ
stl_size count = 84 + 50 * count

-- where the corners of facet i stand, behind its normal
abbrev pub corners_start : (i : ℕ) → ℕ
corners_start i = 84 + 50 * i + 12

-- ---- read
-- the corners of facet i: nine numbers
unfoldable pub corners_in : List ℕ → (i : ℕ) → List Float
corners_in s i = floats_in binary32 s (corners_start i) 9

-- the triangle list that the bytes hold
unfoldable pub stl_triangles : List ℕ → List Float
stl_triangles s = concat_map (corners_in s) (stl_count s)

-- ---- written
abbrev pub zeros : ℕ → List ℕ
zeros n = replicate n 0

-- facet i: normal, corners, attribute
unfoldable pub facet_bytes : List Float → (i : ℕ) → List ℕ
facet_bytes xs i = zeros 12 ++ (float_bytes binary32 xs (9 * i) 9 ++ zeros 2)

-- the bytes of a triangle list
unfoldable pub stl_bytes : List Float → List ℕ
stl_bytes xs = zeros 80 ++ (little 4 (triangle_count xs) ++ concat_map (facet_bytes xs) (triangle_count xs))

-- ---- what a reader keeps of the bytes: count and corners as they are, zeros for all else
unfoldable pub blanked : List ℕ → List ℕ
blanked s = zeros 80 ++ (slice s 80 4 ++ concat_map (λ i. zeros 12 ++ (slice s (corners_start i) 36 ++ zeros 2)) (stl_count s))
