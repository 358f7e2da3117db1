-- Points as bytes, twelve a point, and the answers at them as bytes: what a C host lends and reads.
use Rattle.std.specs.Prelude.{ℕ, ◌*◌, ◌/◌, ◌%◌, not, List, [], ◌∷◌, eqb, length, Float}
use Rattle.std.specs.Float.{binary32}
use Rattle.spec_tables.specs.Tables.{concat_map, overwrite}
use Rattle.spec_records.specs.Entries.{number_bytes, float_bytes, floats_in}
use Rattle.spec_shapes.specs.Points.{Point}
use Rattle.spec_lists.specs.Reading.{point_count}
use Rattle.spec_lists.specs.Refusals.{Verdict, refused_if, first_refusal, coordinate_refusal, after_verdict}
use Rattle.spec_search.specs.Answers.{Answer, answer_width}
use Rattle.spec_search.specs.Calls.{few_words}
use Rattle.spec_angles.specs.Windings.{winding_at}
use Rattle.spec_dipoles.specs.Calls.{fast_windings}

-- the numbers that bytes hold, four bytes each
abbrev pub numbers_of : List ℕ → List Float
numbers_of s = floats_in binary32 s 0 (length s / 4)

-- and back: the bytes of numbers
abbrev pub bytes_of : List Float → List ℕ
bytes_of xs = float_bytes binary32 xs 0 (length xs)

-- 8: bytes that are no multiple of twelve at their length, else a bad coordinate at the index of its number
unfoldable pub point_bytes_refusal : List ℕ → Verdict
point_bytes_refusal bytes = first_refusal (refused_if (not (eqb (length bytes % 12) 0)) 8 (length bytes) ∷ coordinate_refusal 8 (numbers_of bytes) ∷ [])

-- words as bytes, four each
abbrev pub word_bytes : List ℕ → List ℕ
word_bytes words = number_bytes 4 words 0 (length words)

-- how many of them an answer takes
abbrev pub answer_size : ℕ
answer_size = 4 * answer_width

-- the answers at all points, so many a point: the bytes of what a list query answers at them
unfoldable pub answer_bytes : ℕ → (Point → ℕ → Answer) → (points : List ℕ) → List ℕ
answer_bytes most answer points = word_bytes (few_words binary32 most answer (numbers_of points))

-- the winding numbers about all points
unfoldable pub windings : (triangles points : List Float) → List Float
windings triangles points = concat_map (λ k. winding_at binary32 triangles points k ∷ []) (point_count points)

-- the winding numbers as bytes, four each
unfoldable pub winding_bytes : (triangles : List Float) (points : List ℕ) → List ℕ
winding_bytes triangles points = bytes_of (windings triangles (numbers_of points))

-- the winding numbers by dipoles about all points, likewise
unfoldable pub fast_bytes : (triangles : List Float) (order links : List ℕ) (nodes : ℕ) (sums : List Float) (accuracy : Float) (points : List ℕ) → List ℕ
fast_bytes triangles order links nodes sums accuracy points =
    bytes_of (fast_windings binary32 triangles order links nodes sums accuracy (numbers_of points))

-- the lent bytes afterwards: with what is written at the front, and on a refusal as they were
unfoldable pub after_bytes : Verdict → (new old : List ℕ) → List ℕ
after_bytes verdict new old = after_verdict verdict (overwrite 0 new old) old
