-- What writing an image answers and leaves in the lent bytes: the tests 1 to 6 and 71 to 75, then the image.
use Rattle.std.specs.Prelude.{ℕ, List, [], ◌∷◌, length, ltb}
use Rattle.spec_tables.specs.Tables.{overwrite}
use Rattle.spec_records.specs.Layouts.{Shape, version_for, image_size}
use Rattle.spec_lists.specs.Reading.{triangle_count}
use Rattle.spec_lists.specs.Refusals as Refusals
use Rattle.spec_lists.specs.Refusals.{
  Verdict,
  passes,
  refused_if,
  first_refusal,
  triangles_refusal,
  Settings,
  settings_refusal,
  room_refusal,
  after_verdict,
}
use Rattle.spec_tree.specs.Refusals.{tree_refusal}
use Rattle.spec_image.specs.Image.{Image, image_bytes}

-- the version that the image is written in
abbrev pub version_of : Image → Shape
version_of x = version_for (triangle_count x.triangles)

-- the exact size of what is to be written
abbrev pub exact_size : Image → ℕ
exact_size x = image_size (version_of x) (triangle_count x.triangles) x.nodes

-- 5, of a version: its leaf minimum is larger than the version keeps
unfoldable pub leaf_refusal : Shape → Settings → Verdict
leaf_refusal sh s = refused_if (ltb sh.max_leaf s.leaf_minimum) 5 0

-- 1 to 6 and 71 to 75, into `given` bytes
unfoldable pub write_refusal : Image → (given : ℕ) → Verdict
write_refusal x given =
    first_refusal
    (triangles_refusal x.triangles
    ∷ settings_refusal x.settings
    ∷ leaf_refusal (version_of x) x.settings
    ∷ room_refusal given (exact_size x)
    ∷ tree_refusal x.triangles x.order x.links x.boxes x.nodes
    ∷ [])

-- a refusal's number and place, or how many bytes were written
pub data ImageWritten : Type 0 where
  refused : (number place : ℕ) → ImageWritten
  wrote : (bytes : ℕ) → ImageWritten

-- the verdict as the writer answers it
abbrev pub answered : Verdict → (bytes : ℕ) → ImageWritten
answered passes bytes = wrote bytes
answered (Refusals.refused number place) bytes = refused number place

-- what writing answers
unfoldable pub image_written : Image → (given : ℕ) → ImageWritten
image_written x given = answered (write_refusal x given) (exact_size x)

-- the lent bytes afterwards: the image from the front, and what was behind it; as they were on a refusal
unfoldable pub bytes_after : Image → List ℕ → List ℕ
bytes_after x out = after_verdict (write_refusal x (length out)) (overwrite 0 (image_bytes (version_of x) x) out) out
