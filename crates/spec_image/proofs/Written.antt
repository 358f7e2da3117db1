-- The bytes of an image have the right layout, and reading them gives back the settings, the triangles, the order and the links and boxes of
-- the nodes.
use mathlib.Core.Path.{◌≡◌, refl, sym, ap, ◌∙◌, subst}
use mathlib.Core.List.{List, [], ◌++◌, append_assoc, append-nil}
use mathlib.Core.Bool.{Bool, true}
use Prim.Native.Nat.{ℕ, ◌+◌, ◌*◌, ◌%◌, ◌^◌, ◌≤◌, ◌<◌}
use native.Mathlib.Nat.{add_assoc, mul-mod_right}
use native.Mathlib.Omega.{arith}
use borrow.Author.Tests.{eq-eqb}
use lib.ListN.{length, take, drop}
use lib.Seq.{take-length, take-add, drop-drop}
use Rattle.spec_tables.specs.Tables.{concat_map, slice, Remaining}
use Rattle.spec_tables.proofs.Tables.{concat_map_same, concat_map_slices, remaining_whole, remaining_within, remaining_front}
use Rattle.spec_tables.proofs.Pieces.{piece_within, remaining_concat_map, remaining_on, remaining_slice}
use Rattle.spec_records.specs.Little.{little, little_at}
use Rattle.spec_records.specs.Entries.{number_bytes, float_bytes, numbers_in, floats_in}
use Rattle.spec_records.specs.Records.{bodies, exactly, whole, size_at, is_record, header, record_of, laid_out}
use Rattle.spec_records.specs.Layouts.{Shape, version_for, triangle_size, node_size, settings_right, triangles_of, triangles_right, image_wants, order_start, nodes_start, image_spans}
use Rattle.spec_records.proofs.Little.{length_little, number_remaining}
use Rattle.spec_records.proofs.Entries.{length_numbers, numbers_read, floats_read}
use Rattle.spec_records.proofs.Layouts.{version_triangle}
use Rattle.spec_records.proofs.Records.{RightRecord, record_there, reach_start, reach_on, reach_end}
use Rattle.spec_image.specs.Image.{Image, settings_bytes, node_bytes, triangles_body, order_body, nodes_body, image_bytes, leaf_in, settings_in, links_in, sides_in, image_in}
use Rattle.spec_image.specs.Stored.{Storable, used}
use Rattle.spec_image.specs.Reading.{Rooms, holds, room_for, judged, image_read}
use Rattle.spec_image.proofs.Versions.{low_two, Keeps, version_keeps}
use Rattle.spec_image.proofs.Laid.{judged_by_room}
use Rattle.spec_image.proofs.Sizes.{length_settings, length_node, length_triangles, length_order, length_nodes, count_of}

-- ---- one record
-- a record of this kind is left at the place, its body has this size, and behind it the rest is left
pub record RecordRemaining (kind : ℕ) (body : List ℕ) (size : ℕ) (s : List ℕ) (at : ℕ) (rest : List ℕ) : Type 0 where
  pub there : is_record kind s at ≡ true
  pub sized : size_at s at ≡ size
  pub inner : Remaining s (at + 6) (body ++ rest)
  pub stands : slice s (at + 6) size ≡ body
  pub onward : Remaining s (at + 6 + size) rest

record_remaining : (kind : ℕ) (body : List ℕ) (size : ℕ) (s : List ℕ) (at : ℕ) (rest : List ℕ) → kind < 256 ^ 2 → size < 256 ^ 4 → length body ≡ size
    → Remaining s at (record_of kind body ++ rest)
    → RecordRemaining kind body size s at rest
unfolding record_of header
record_remaining kind body size s at rest k l long h =
    let h₀ : Remaining s at (little 4 (length body) ++ (little 2 kind ++ (body ++ rest))) = subst (Remaining s at) (simp append_assoc) h in
    let sized : size_at s at ≡ size = number_remaining 4 (length body) s at _ (omega arith) h₀ ∙ long in
    let h₁ : Remaining s (at + 4) (little 2 kind ++ (body ++ rest)) = remaining_on 4 s at (little 4 (length body)) _ (length_little 4 (length body)) h₀ in
    let h₂ : Remaining s (at + 6) (body ++ rest) = subst (λ (n : ℕ). Remaining s n (body ++ rest)) (add_assoc at 4 2)
    (remaining_on 2 s (at + 4) (little 2 kind) _ (length_little 2 kind) h₁) in
    let h₃ : Remaining s (at + 6 + size) rest = remaining_on size s (at + 6) body rest long h₂ in
    record {
      there = record_there kind s at (omega (arith, h₃.within)) (number_remaining 2 kind s (at + 4) _ k h₁);
      sized = sized;
      inner = h₂;
      stands = ap (slice s (at + 6)) (sym long) ∙ remaining_front s (at + 6) body rest h₂;
      onward = h₃;
    }

right : {kind : ℕ} {body : List ℕ} {size : ℕ} {s : List ℕ} {at : ℕ} {rest : List ℕ} (test : List ℕ → Bool) → RecordRemaining kind body size s at rest
    → test body ≡ true → RightRecord kind test s at size
right test r ok = record { there = r.there; sized = r.sized; passes = ap test r.stands ∙ ok }

module _ (sh : Shape) (x : Image) (ok : Storable sh x) where
  abbrev t : ℕ
  t = length x.order

  abbrev s : List ℕ
  s = image_bytes sh x

  abbrev b₁ : List ℕ
  b₁ = settings_bytes sh x.settings

  abbrev b₂ : List ℕ
  b₂ = triangles_body sh x

  abbrev b₃ : List ℕ
  b₃ = order_body sh x

  abbrev b₄ : List ℕ
  b₄ = nodes_body sh x

  long₂ : length b₂ ≡ triangle_size sh * t
  long₂ = length_triangles sh x ok.complete

  long₃ : length b₃ ≡ sh.entry * t
  long₃ = length_order sh x

  long₄ : length b₄ ≡ node_size sh * x.nodes
  long₄ = length_nodes sh x

  -- ---- the four records
  first : RecordRemaining 1 b₁ 8 s 0 (record_of 2 b₂ ++ (record_of 3 b₃ ++ (record_of 4 b₄ ++ [])))
  unfolding image_bytes
  first =
      record_remaining 1 b₁ 8 s 0 _ (omega arith) (omega arith) (length_settings sh x.settings)
      (subst (Remaining s 0) (simp (append_assoc, append-nil)) (remaining_whole s))

  second : RecordRemaining 2 b₂ (triangle_size sh * t) s 14 (record_of 3 b₃ ++ (record_of 4 b₄ ++ []))
  second = record_remaining 2 b₂ (triangle_size sh * t) s 14 _ (omega arith) ok.few long₂ first.onward

  third : RecordRemaining 3 b₃ (sh.entry * t) s (20 + triangle_size sh * t) (record_of 4 b₄ ++ [])
  third = record_remaining 3 b₃ (sh.entry * t) s (20 + triangle_size sh * t) _ (omega arith) ok.few_entries long₃ second.onward

  fourth : RecordRemaining 4 b₄ (node_size sh * x.nodes) s (order_start sh t + sh.entry * t) []
  fourth = record_remaining 4 b₄ (node_size sh * x.nodes) s (order_start sh t + sh.entry * t) [] (omega arith) ok.few_nodes long₄ third.onward

  -- ---- the layout, of the version for so many triangles
  module _ (is : sh ≡ version_for t) where
    keeps : Keeps t sh
    keeps = subst (Keeps t) (sym is) (version_keeps t)

    version_there : little_at 2 b₁ 0 ≡ sh.version
    unfolding settings_bytes
    version_there =
        let front : Remaining b₁ 0
        (little 2 sh.version ++ (little 2 x.settings.strategy ++ (little 2 x.settings.leaf_minimum ++ little 2 x.settings.maximum_depth))) =
        subst (Remaining b₁ 0) (simp append_assoc) (remaining_whole b₁) in
        number_remaining 2 sh.version b₁ 0 _ ok.version front

    settings_ok : settings_right b₁ ≡ true
    settings_ok = rw (length_settings sh x.settings, version_there, keeps.known)

    count : triangles_of b₂ ≡ t
    count = count_of t b₂ (long₂ ∙ ap (λ (v : Shape). triangle_size v * t) is)

    triangles_ok : triangles_right (little_at 2 b₁ 0) b₂ ≡ true
    triangles_ok =
        let long : length b₂ ≡ 36 * t = long₂ ∙ ap (λ (v : Shape). triangle_size v * t) is ∙ ap (λ (k : ℕ). k * t) (version_triangle t) in
        let whole : length b₂ % 36 ≡ 0 = omega arith in
        rw (version_there, count, ← is, eq-eqb _ 0 whole, eq-eqb sh.version sh.version refl)

    order_ok : exactly (sh.entry * t) b₃ ≡ true
    order_ok = rw long₃ (eq-eqb (sh.entry * t) (sh.entry * t) refl)

    nodes_ok : whole (node_size sh) b₄ ≡ true
    nodes_ok = rw long₄ (eq-eqb _ 0 (mul-mod_right (node_size sh) x.nodes))

    -- the layout of what was written is right, and says how many triangles and nodes there are
    pub written_laid : laid_out image_wants s 0 ≡ bodies (image_spans sh t x.nodes)
    unfolding image_spans
    written_laid =
        let one = reach_on (reach_start image_wants s) (right settings_right first settings_ok) in
        let two = reach_on (rw first.stands at one) (right (triangles_right (little_at 2 b₁ 0)) second triangles_ok) in
        let three = reach_on (rw (second.stands, count, ← is) at two) (right (exactly (sh.entry * t)) third order_ok) in
        let four = reach_on three (right (whole (node_size sh)) fourth nodes_ok) in
        reach_end four (omega (arith, remaining_within s _ [] fourth.onward))

  -- ---- the values
  settings_back : settings_in sh s ≡ x.settings
  unfolding settings_in settings_bytes
  settings_back =
      let v : ℕ = sh.version in
      let a : ℕ = x.settings.strategy in
      let b : ℕ = x.settings.leaf_minimum in
      let c : ℕ = x.settings.maximum_depth in
      let rest : List ℕ = record_of 2 b₂ ++ (record_of 3 b₃ ++ (record_of 4 b₄ ++ [])) in
      let h₀ : Remaining s 6 (little 2 v ++ (little 2 a ++ (little 2 b ++ (little 2 c ++ rest)))) = subst (Remaining s 6) (simp append_assoc) first.inner in
      let h₁ : Remaining s 8 (little 2 a ++ (little 2 b ++ (little 2 c ++ rest))) = remaining_on 2 s 6 (little 2 v) _ (length_little 2 v) h₀ in
      let h₂ : Remaining s 10 (little 2 b ++ (little 2 c ++ rest)) = remaining_on 2 s 8 (little 2 a) _ (length_little 2 a) h₁ in
      let h₃ : Remaining s 12 (little 2 c ++ rest) = remaining_on 2 s 10 (little 2 b) _ (length_little 2 b) h₂ in
      let p : little_at 2 s 8 ≡ a = number_remaining 2 a s 8 _ ok.strategy h₁ in
      let low : little_at 2 s 10 ≡ b % 256 ^ 2 = number_remaining 2 (b % 256 ^ 2) s 10 _ (omega arith) (rw (← low_two b) at h₂) in
      let q : leaf_in sh (little_at 2 s 10) ≡ b = ap (leaf_in sh) low ∙ ok.leaf_minimum in
      let r : little_at 2 s 12 ≡ c = number_remaining 2 c s 12 _ ok.maximum_depth h₃ in
      λ i. record { strategy = p i; leaf_minimum = q i; maximum_depth = r i }

  triangles_back : floats_in sh.float s 20 (9 * t) ≡ x.triangles
  triangles_back =
      ap (floats_in sh.float s 20) (sym ok.complete.triples)
      ∙ floats_read sh.float x.triangles 0 (length x.triangles) s 20 _ ok.corners (omega arith) second.inner
      ∙ take-length x.triangles

  order_back : numbers_in sh.entry s (order_start sh t) t ≡ x.order
  order_back = numbers_read sh.entry x.order 0 t s (order_start sh t) _ ok.entries (omega arith) third.inner ∙ take-length x.order

  -- a node that is left at its place
  module _ (i : ℕ) (l : i < x.nodes) where
    abbrev at : ℕ
    at = nodes_start sh t + node_size sh * i

    abbrev rest : List ℕ
    rest = drop (at + length (node_bytes sh x.links x.boxes i)) s

    abbrev kind : List ℕ
    kind = number_bytes 2 x.links (3 * i) 1

    abbrev sides : List ℕ
    sides = number_bytes sh.entry x.links (3 * i + 1) 2

    abbrev box : List ℕ
    box = float_bytes sh.float x.boxes (6 * i) 6

    node_remaining : Remaining s at (kind ++ (sides ++ (box ++ rest)))
    unfolding node_bytes
    node_remaining =
        let sized : length (node_bytes sh x.links x.boxes i) ≡ node_size sh = length_node sh x.links x.boxes i in
        let e : slice s at (node_size sh) ≡ node_bytes sh x.links x.boxes i =
        remaining_concat_map (node_bytes sh x.links x.boxes) (node_size sh) x.nodes s (nodes_start sh t) [] (length_node sh x.links x.boxes)
        fourth.inner i l in
        let m : node_size sh * i + node_size sh ≤ node_size sh * x.nodes = piece_within (node_size sh) x.nodes i l in
        let room : at + length (node_bytes sh x.links x.boxes i) ≤ length s = omega (arith, fourth.onward.within) in
        subst (Remaining s at) (simp append_assoc)
        (remaining_slice s at (node_bytes sh x.links x.boxes i) room (ap (slice s at) sized ∙ e))

    sides_remaining : Remaining s (at + 2) (sides ++ (box ++ rest))
    sides_remaining = remaining_on 2 s at kind _ (length_numbers 2 x.links (3 * i) 1) node_remaining

    box_remaining : Remaining s (at + (2 + 2 * sh.entry)) (box ++ rest)
    box_remaining =
        let e : at + 2 + sh.entry * 2 ≡ at + (2 + 2 * sh.entry) = omega arith in
        subst (λ (n : ℕ). Remaining s n (box ++ rest)) e
        (remaining_on (sh.entry * 2) s (at + 2) sides _ (length_numbers sh.entry x.links (3 * i + 1) 2) sides_remaining)

    links_back : links_in sh s (nodes_start sh t) i ≡ slice x.links (3 * i) 3
    unfolding links_in
    links_back =
        let room : 3 * i + 3 ≤ length x.links = omega (arith, ok.complete.linked) in
        let a : numbers_in 2 s at 1 ≡ slice x.links (3 * i) 1 = numbers_read 2 x.links (3 * i) 1 s at _ (ok.kinds i l) (omega arith) node_remaining in
        let b : numbers_in sh.entry s (at + 2) 2 ≡ slice x.links (3 * i + 1) 2 =
        numbers_read sh.entry x.links (3 * i + 1) 2 s (at + 2) _ (ok.sides i l) (omega arith) sides_remaining in
        rw (a, b, take-add 1 2 (drop (3 * i) x.links), drop-drop 1 (3 * i) x.links)

    box_back : sides_in sh s (nodes_start sh t) i ≡ slice x.boxes (6 * i) 6
    unfolding sides_in
    box_back =
        let room : 6 * i + 6 ≤ length x.boxes = omega (arith, ok.complete.boxed) in
        floats_read sh.float x.boxes (6 * i) 6 s (at + (2 + 2 * sh.entry)) _ (ok.bounds i l) room box_remaining

  -- reading what was written gives back what was written
  pub written_read : image_in sh s t x.nodes ≡ used x
  unfolding image_in
  written_read =
      let links_are : concat_map (links_in sh s (nodes_start sh t)) x.nodes ≡ take (3 * x.nodes) x.links =
      concat_map_same (links_in sh s (nodes_start sh t)) (λ i. slice x.links (3 * i) 3) x.nodes links_back ∙ concat_map_slices 3 x.links x.nodes in
      let boxes_are : concat_map (sides_in sh s (nodes_start sh t)) x.nodes ≡ take (6 * x.nodes) x.boxes =
      concat_map_same (sides_in sh s (nodes_start sh t)) (λ i. slice x.boxes (6 * i) 6) x.nodes box_back ∙ concat_map_slices 6 x.boxes x.nodes in
      λ i. record { settings = settings_back i; triangles = triangles_back i; order = order_back i; nodes = x.nodes; links = links_are i; boxes = boxes_are i }

  -- reading what was written answers its settings and counts, where there is room
  pub written_holds : sh ≡ version_for t → (r : Rooms) → room_for r t x.nodes ≡ true → image_read s r ≡ holds x.settings t x.nodes
  unfolding image_read
  written_holds is r room =
      ap (judged s r) (written_laid is ∙ ap (λ (v : Shape). bodies (image_spans v t x.nodes)) is)
      ∙ judged_by_room s r t x.nodes ∙ rw (room, ← is, settings_back)
