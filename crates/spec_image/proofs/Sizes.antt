-- How long the records of an image are, so that each is found behind the one before it, and what a right layout says of the numbers in the image.
use mathlib.Core.Path.{◌≡◌, sym, ap, ◌∙◌}
use mathlib.Core.List.{List, []}
use Prim.Native.Nat.{ℕ, ◌+◌, ◌*◌, ◌≤◌}
use native.Mathlib.Omega.{arith}
use borrow.Author.Tests.{eqb-true}
use lib.ListN.{length, length-append}
use lib.Dec.{eqb}
use lib.Ieee.{Float}
use Rattle.spec_tables.specs.Tables.{slice}
use Rattle.spec_tables.proofs.Tables.{length_concat_map}
use Rattle.spec_tables.proofs.Pieces.{length_singles}
use Rattle.spec_records.specs.Little.{little_at}
use Rattle.spec_records.specs.Entries.{float_size}
use Rattle.spec_records.specs.Records.{bodies, done, one, exactly, whole, laid_out}
use Rattle.spec_records.specs.Layouts.{Shape, version_for, triangle_size, node_size, settings_right, triangles_of, triangles_right, tree_wants, image_wants, order_start, image_size, image_spans}
use Rattle.spec_records.proofs.Little.{length_little, number_slice}
use Rattle.spec_records.proofs.Entries.{length_numbers, length_floats}
use Rattle.spec_records.proofs.Records.{both, record_kind, one_back, done_back, length_record}
use Rattle.spec_records.proofs.Layouts.{version_triangle, body_long}
use Rattle.spec_lists.specs.Refusals.{Settings}
use Rattle.spec_image.specs.Image.{Image, settings_bytes, node_bytes, triangles_body, order_body, nodes_body, image_bytes, links_in, sides_in}
use Rattle.spec_image.specs.Stored.{Complete, ImageIs}

-- ---- of what is written
-- the body of the settings has eight bytes
pub length_settings : (sh : Shape) (x : Settings) → length (settings_bytes sh x) ≡ 8
unfolding settings_bytes
length_settings sh x = simp (length-append, length_little)

-- the bytes of a node are as many as the shape says
pub length_node : (sh : Shape) (links : List ℕ) (boxes : List Float) (i : ℕ) → length (node_bytes sh links boxes i) ≡ node_size sh
unfolding node_bytes
length_node sh links boxes i =
    simp (length-append, length_numbers 2 links (3 * i) 1, length_numbers sh.entry links (3 * i + 1) 2, length_floats sh.float boxes (6 * i) 6)
    (omega arith)

module _ (sh : Shape) (x : Image) where
  nine : (w n t : ℕ) → n ≡ 9 * t → w * n ≡ 9 * w * t
  nine w n t e = rw e (omega arith)

  -- the body of the triangles is as long as the layout wants it
  pub length_triangles : Complete x → length (triangles_body sh x) ≡ triangle_size sh * length x.order
  length_triangles ok =
      length_floats sh.float x.triangles 0 (length x.triangles)
      ∙ nine (float_size sh.float) (length x.triangles) (length x.order) ok.triples

  -- the body of the order is as long as the layout wants it
  pub length_order : length (order_body sh x) ≡ sh.entry * length x.order
  length_order = length_numbers sh.entry x.order 0 (length x.order)

  -- the body of the nodes is as long as the layout wants it
  pub length_nodes : length (nodes_body sh x) ≡ node_size sh * x.nodes
  length_nodes = length_concat_map (node_bytes sh x.links x.boxes) (node_size sh) x.nodes (length_node sh x.links x.boxes)

  -- an image has exactly the size that the writer asks room for
  pub length_image : Complete x → length (image_bytes sh x) ≡ image_size sh (length x.order) x.nodes
  unfolding image_bytes
  length_image ok =
      simp (length-append, length_record, length_settings, length_triangles ok, length_order, length_nodes) (omega arith)

-- ---- of what is read
-- a node that is read gives three links
pub length_links : (sh : Shape) (s : List ℕ) (start i : ℕ) → length (links_in sh s start i) ≡ 3
unfolding links_in
length_links sh s start i = simp (length-append, length_singles)

-- a node that is read gives the six numbers of its box
pub length_box : (sh : Shape) (s : List ℕ) (start i : ℕ) → length (sides_in sh s start i) ≡ 6
unfolding sides_in
length_box sh s start i = length_singles _ 6

-- ---- of a layout
-- as many triangles as a body of that many has
pub count_of : (t : ℕ) (body : List ℕ) → length body ≡ triangle_size (version_for t) * t → triangles_of body ≡ t
count_of t body e = let long : length body ≡ 36 * t = e ∙ ap (λ (k : ℕ). k * t) (version_triangle t) in omega arith

-- a right layout fixes the sizes, kinds, version and length of an image
pub image_is : (s : List ℕ) (t n : ℕ) → laid_out image_wants s 0 ≡ bodies (image_spans (version_for t) t n) → ImageIs (version_for t) s t n
unfolding image_spans
image_is s t n e =
    let sh : Shape = version_for t in
    let version : ℕ = little_at 2 (slice s 6 8) 0 in
    let triangles : List ℕ = slice s 20 (triangle_size sh * t) in
    let a = one_back 1 settings_right _ s 0 _ _ e in
    let b = one_back 2 (triangles_right version) (λ body. tree_wants (version_for (triangles_of body)) (triangles_of body)) s 14 _ _ a.onward in
    let count : triangles_of triangles ≡ t = count_of t triangles (body_long b.right) in
    let c = one_back 3 (exactly (sh.entry * t)) (λ _. one 4 (whole (node_size sh)) (λ _. done)) s (20 + triangle_size sh * t) _ _ (rw count at b.onward) in
    let d = one_back 4 (whole (node_size sh)) (λ _. done) s (order_start sh t + sh.entry * t) _ _ c.onward in
    let two : 2 ≤ 8 = omega arith in
    let for_count : (version_for (triangles_of triangles)).version ≡ version = eqb-true _ _
    (both (whole 36 triangles) (eqb (version_for (triangles_of triangles)).version version) b.right.passes).1 in
    record {
      size1 = a.right.sized;
      kind1 = record_kind 1 s 0 a.right.there;
      version = sym (number_slice 2 s 6 8 two) ∙ sym for_count ∙ ap (λ (k : ℕ). (version_for k).version) count;
      size2 = b.right.sized;
      kind2 = record_kind 2 s 14 b.right.there;
      size3 = c.right.sized;
      kind3 = record_kind 3 s (20 + triangle_size sh * t) c.right.there;
      size4 = d.right.sized;
      kind4 = record_kind 4 s (order_start sh t + sh.entry * t) d.right.there;
      long = done_back s (image_size sh t n) [] d.onward;
    }
