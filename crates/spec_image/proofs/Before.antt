-- Images of version 1 read as they did before there was another, the same answer and the same lists, and are written as they were.
use mathlib.Core.Path.{◌≡◌, refl, sym, ap, ◌∙◌}
use mathlib.Core.Bool.{Bool, true, false, cond}
use mathlib.Core.List.{List, ◌++◌}
use Prim.Native.Nat.{ℕ, ◌+◌, ◌*◌, ◌/◌, ◌≤◌}
use native.Mathlib.Omega.{arith}
use borrow.Author.Tests.{eqb-true}
use lib.Dec.{eqb}
use lib.Ieee.{binary32}
use Rattle.spec_tables.specs.Tables.{concat_map}
use Rattle.spec_records.specs.Little.{little_at}
use Rattle.spec_records.specs.Entries.{numbers_in, floats_in}
use Rattle.spec_records.specs.Records.{Span, Layout, wrong, bodies, size_at, laid_out}
use Rattle.spec_records.specs.Layouts.{Shape, version1, version_for, image_wants, image_spans}
use Rattle.spec_records.proofs.Layouts.{version_small, version_triangle, wants_before, version1_as_before}
use Rattle.spec_lists.specs.Reading.{triangle_count}
use Rattle.spec_lists.specs.Refusals.{Settings}
use Rattle.spec_image.specs.Image.{Image, image_bytes, leaf_in, settings_in, links_in, sides_in, image_in}
use Rattle.spec_image.specs.Reading.{Rooms, ImageRead, refused, holds, room_for, by_room, size_of, judged, image_read}
use Rattle.spec_image.specs.Writing.{version_of}
use Rattle.spec_image.proofs.Laid.{counted, judged_by_room}
use Rattle.spec_image.proofs.Sizes.{image_is}

-- ---- the reader of then
-- every setting is the number that is stored
abbrev pub settings_before : List ℕ → Settings
settings_before s = record { strategy = little_at 2 s 8; leaf_minimum = little_at 2 s 10; maximum_depth = little_at 2 s 12 }

-- entries of two bytes, nodes of thirty
abbrev pub image_before : List ℕ → (triangles nodes : ℕ) → Image
image_before s t n =
    let third = 20 + 36 * t + 6 in
    let fourth = third + 2 * t + 6 in
    record {
      settings = settings_before s;
      triangles = floats_in binary32 s 20 (9 * t);
      order = numbers_in 2 s third t;
      nodes = n;
      links = concat_map (λ i. numbers_in 2 s (fourth + 30 * i) 1 ++ numbers_in 2 s (fourth + 30 * i + 2) 2) n;
      boxes = concat_map (λ i. floats_in binary32 s (fourth + 30 * i + 6) 6) n;
    }

abbrev judged_before : List ℕ → Rooms → Layout → ImageRead
judged_before s r (wrong at) = refused 10 at
judged_before s r (bodies bs) =
    let t = size_of bs 1 / 36 in
    let n = size_of bs 3 / 30 in
    cond (room_for r t n) (holds (settings_before s) t n) (refused 6 0)

-- what reading answered
abbrev pub read_before : List ℕ → Rooms → ImageRead
read_before s r = judged_before s r (laid_out wants_before s 0)

-- ---- the reader of now
leaf_stored : (stored : ℕ) → leaf_in version1 stored ≡ stored
unfolding leaf_in
leaf_stored stored = go (eqb stored 0) refl
  where
    go : (b : Bool) → eqb stored 0 ≡ b → cond b 0 stored ≡ stored
    go true e = sym (eqb-true stored 0 e)
    go false e = refl

settings_same : (s : List ℕ) → settings_in version1 s ≡ settings_before s
unfolding settings_in
settings_same s = λ i. record { strategy = little_at 2 s 8; leaf_minimum = leaf_stored (little_at 2 s 10) i; maximum_depth = little_at 2 s 12 }

room_same : (s : List ℕ) (r : Rooms) (t n : ℕ) → version_for t ≡ version1
    → by_room s r t n ≡ judged_before s r (bodies (image_spans (version_for t) t n))
unfolding image_spans
room_same s r t n small =
    let a : 36 * t / 36 ≡ t = omega arith in
    let b : 30 * n / 30 ≡ n = omega arith in
    rw (small, a, b, settings_same s)

module _ (s : List ℕ) (first : little_at 2 s 6 ≡ 1) (few : size_at s 14 / 36 ≤ 4096) (r : Rooms) where
  by_layout : (l : Layout) → laid_out image_wants s 0 ≡ l → judged s r l ≡ judged_before s r l
  by_layout (wrong at) e = refl
  by_layout (bodies bs) e =
      let c = counted s bs e in
      let t = c.triangles in
      let n = c.nodes in
      let size = (image_is s t n (e ∙ ap bodies c.are)).size2 ∙ ap (λ (k : ℕ). k * t) (version_triangle t) in
      let small : version_for t ≡ version1 = version_small t (omega arith) in
      ap (λ (l : List Span). judged s r (bodies l)) c.are ∙ judged_by_room s r t n ∙ room_same s r t n small
      ∙ ap (λ (l : List Span). judged_before s r (bodies l)) (sym c.are)

  -- an image of version 1 of 4,096 triangles or fewer: reading answers what it answered then
  pub version1_same : image_read s r ≡ read_before s r
  unfolding image_read
  version1_same = by_layout (laid_out image_wants s 0) refl ∙ ap (judged_before s r) (version1_as_before s first few)

-- and the lists are those of then: triangles, order, links and boxes, so the same tree
pub version1_lists : (s : List ℕ) (t n : ℕ) → t ≤ 4096 → image_in (version_for t) s t n ≡ image_before s t n
unfolding image_in links_in sides_in
version1_lists s t n few =
    rw (version_small t few) (λ i. record {
      settings = settings_same s i;
      triangles = (image_before s t n).triangles;
      order = (image_before s t n).order;
      nodes = n;
      links = (image_before s t n).links;
      boxes = (image_before s t n).boxes;
    })

-- ---- the writer
-- 4,096 triangles or fewer are written in version 1, as then
pub version1_written : (x : Image) → triangle_count x.triangles ≤ 4096 → image_bytes (version_of x) x ≡ image_bytes version1 x
version1_written x few = ap (λ (v : Shape). image_bytes v x) (version_small (triangle_count x.triangles) few)
