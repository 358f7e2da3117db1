-- What the writer accepts is kept: it reads back equal, and an image whose contents the writer accepts is written back byte for byte.
-- So no two images have the same contents.
use mathlib.Core.Path.{◌≡◌, refl, sym, ap, ◌∙◌, subst}
use mathlib.Core.Logic.{⊎_elim}
use mathlib.Core.Bool.{Bool, true, false, cond}
use mathlib.Core.List.{List}
use Prim.Native.Nat.{ℕ, zero, suc, ◌+◌, ◌*◌, ◌≤◌, ◌<◌}
use native.Mathlib.Omega.{arith}
use lib.ListN.{length, take, get_or}
use lib.Dec.{T}
use lib.Ieee.{Float, nan, binary32, fits}
use lib.Ieee.Bits.{of_bits-fits}
use Rattle.spec_tables.specs.Each.{Each}
use Rattle.spec_tables.proofs.Each.{each_concat_map, each_at, each_by_index, each_taken}
use Rattle.spec_tables.proofs.Pieces.{take_overwrite, length_singles}
use Rattle.spec_numbers.specs.Plain.{Plain}
use Rattle.spec_numbers.proofs.Order.{finite_number}
use Rattle.spec_records.specs.Little.{Bytes}
use Rattle.spec_records.specs.Entries.{floats_in, NoNan}
use Rattle.spec_records.specs.Records.{Layout, wrong, bodies, laid_out}
use Rattle.spec_records.specs.Layouts.{Shape, version_for, image_wants, image_size, image_spans}
use Rattle.spec_records.proofs.Layouts.{version_float}
use Rattle.spec_lists.specs.Reading.{box_at, triangle_count}
use Rattle.spec_lists.specs.Refusals.{passes, Settings}
use Rattle.spec_lists.specs.Passed.{AllFit}
use Rattle.spec_lists.proofs.Coordinates.{coordinate_finite}
use Rattle.spec_lists.proofs.Reading.{triangle_inside, box_at_plain}
use Rattle.spec_shapes.specs.Plain.{PlainBox}
use Rattle.spec_tree.specs.Trees.{boxes_of, kind_at, left_at, right_at}
use Rattle.spec_tree.specs.Hangs.{Sound}
use Rattle.spec_tree.proofs.Trees.{boxes_length}
use Rattle.spec_tree.proofs.Order.{permutes_entries}
use Rattle.spec_tree.proofs.Hangs.{listing_sound}
use Rattle.spec_image.specs.Image.{Image, image_bytes, settings_in, image_in}
use Rattle.spec_image.specs.Stored.{Storable, used}
use Rattle.spec_image.specs.Reading.{Rooms, refused, holds, room_for, by_room, judged, image_read}
use Rattle.spec_image.specs.Writing.{version_of, exact_size, write_refusal, bytes_after}
use Rattle.spec_image.proofs.Versions.{Keeps, version_keeps}
use Rattle.spec_image.proofs.Laid.{counted, judged_by_room}
use Rattle.spec_image.proofs.Sizes.{length_image, image_is}
use Rattle.spec_image.proofs.Listed.{boxes_plain}
use Rattle.spec_image.proofs.Writing.{Good, good_count, good_complete, good_nodes, write_passed}
use Rattle.spec_image.proofs.Written.{written_read, written_holds}
use Rattle.spec_image.proofs.Rewritten.{rewritten}

-- floats that are read are values of the format, so they can be written again
pub floats_fit : (s : List ℕ) (start n : ℕ) → AllFit binary32 (floats_in binary32 s start n)
floats_fit s start n i h =
    let fit : Float → Type 0 = λ (x : Float). T (fits binary32 x) in
    each_at fit (floats_in binary32 s start n) i nan h (each_concat_map fit _ n (λ j. (of_bits-fits binary32 _, tt)))

-- ---- what good lists hold
module _ (x : Image) (g : Good x) (fit : AllFit binary32 x.triangles) where
  sound : Sound (triangle_count x.triangles) x.order x.links x.boxes x.nodes
  sound = listing_sound (box_at x.triangles) (triangle_count x.triangles) x.order x.links x.boxes x.nodes g.tree g.listing

  -- a kind is 1 or 2, and left and right are below 2n: they are entries of the order list or nodes
  module _ (i : ℕ) (h : i < x.nodes) where
    kind_small : kind_at x.links i ≤ 2
    kind_small = ⊎_elim (λ l. omega (arith, l.is_leaf)) (λ b. omega (arith, b.is_branch)) (sound.node_is i h)

    left_small : left_at x.links i < 2 * triangle_count x.triangles
    left_small =
        ⊎_elim (λ l. omega (arith, l.nonempty, l.within, good_count x g)) (λ b. omega (arith, b.left_before, good_nodes x g)) (sound.node_is i h)

    right_small : right_at x.links i ≤ 2 * triangle_count x.triangles
    right_small = ⊎_elim (λ l. omega (arith, l.within, good_count x g)) (λ b. omega (arith, b.right_before, good_nodes x g)) (sound.node_is i h)

    side_small : (j : ℕ) → j < 2 → get_or x.links (3 * i + 1 + j) 0 ≤ 2 * triangle_count x.triangles
    side_small zero l = let e : 3 * i + 1 + 0 ≡ 3 * i + 1 = omega arith in rw e (omega (arith, left_small))
    side_small (suc zero) l = let e : 3 * i + 1 + 1 ≡ 3 * i + 2 = omega arith in rw e right_small
    side_small (suc (suc j)) l = absurd (past l)
      where
        past : suc (suc j) < 2 → ⊥
        past l = omega arith

  box_plain : (i : ℕ) → i < 6 * x.nodes → Plain binary32 (get_or x.boxes i nan)
  box_plain i h =
      let l = g.listing in
      let t = g.tree in
      let long : length (boxes_of (box_at x.triangles) t) ≡ 6 * x.nodes = boxes_length (box_at x.triangles) t
      ∙ ap (λ (k : ℕ). 6 * k) (sym l.nodes_are) in
      let below = permutes_entries (triangle_count x.triangles) x.order l.permuted in
      let plains : Each (λ (k : ℕ). PlainBox binary32 (box_at x.triangles k)) x.order =
      each_by_index (λ (k : ℕ). PlainBox binary32 (box_at x.triangles k)) 0 x.order (λ j k. box_at_plain x.triangles
      g.triangles.coordinates binary32 fit (get_or x.order j 0) (triangle_inside x.triangles (get_or x.order j 0) (below j k))) in
      each_taken (Plain binary32) nan (6 * x.nodes) x.boxes (boxes_of (box_at x.triangles) t) l.boxes_are long
      (boxes_plain binary32 (box_at x.triangles) t l.filled
      (subst (Each (λ (k : ℕ). PlainBox binary32 (box_at x.triangles k))) l.order_is plains)) i h

  -- what the writer accepts can be stored without loss
  pub good_storable : Storable (version_of x) x
  good_storable =
      let n = triangle_count x.triangles in
      let count = good_count x g in
      let few = g.triangles.few in
      let set = g.settings in
      let keeps : Keeps n (version_of x) = version_keeps n in
      let wide = keeps.links few in
      let entries = permutes_entries n x.order g.listing.permuted in
      record {
        complete = good_complete x g;
        version = keeps.version;
        strategy = omega arith;
        leaf_minimum = keeps.leaf x.settings.leaf_minimum set.leaf g.leaf_kept;
        maximum_depth = omega arith;
        corners = λ i h. rw (version_float n) (fit (0 + i) (omega arith));
        entries = λ i h. omega (arith, entries (0 + i) (omega arith));
        kinds = λ i h j k. let e : 3 * i + j ≡ 3 * i = omega arith in rw e (omega (arith, kind_small i h));
        sides = λ i h j k. omega (arith, side_small i h j k);
        bounds = λ i h j k. rw (version_float n) (box_plain (6 * i + j) (omega arith)).fitting;
        few = rw count (keeps.triangles few);
        few_entries = rw count (keeps.order few);
        few_nodes = keeps.nodes few x.nodes (good_nodes x g);
      }

-- an image that the writer accepts has exactly the bytes that it says
pub good_long : (x : Image) → Good x → length (image_bytes (version_of x) x) ≡ exact_size x
good_long x g = length_image (version_of x) x (good_complete x g) ∙ ap (λ (k : ℕ). image_size (version_of x) k x.nodes) (good_count x g)

-- ---- written
-- what the writer accepts stands, as an image, at the front of the lent bytes
pub written_front : (x : Image) (out : List ℕ) → write_refusal x (length out) ≡ passes → take (exact_size x) (bytes_after x out) ≡ image_bytes (version_of x) x
unfolding bytes_after
written_front x out accepted =
    let good = (write_passed x (length out) accepted).0 in
    rw accepted (take_overwrite (exact_size x) (image_bytes (version_of x) x) out (good_long x good))

-- ---- written, then read
module _ (x : Image) (given : ℕ) (fit : AllFit binary32 x.triangles) (accepted : write_refusal x given ≡ passes) where
  good : Good x
  good = (write_passed x given accepted).0

  -- the image of what the writer accepts reads back equal
  pub written_back : image_in (version_of x) (image_bytes (version_of x) x) (triangle_count x.triangles) x.nodes ≡ used x
  written_back =
      ap (λ (k : ℕ). image_in (version_of x) (image_bytes (version_of x) x) k x.nodes) (sym (good_count x good))
      ∙ written_read (version_of x) x (good_storable x good fit)

  -- reading the image answers the settings and counts that were written, where there is room
  pub written_held : (r : Rooms) → room_for r (triangle_count x.triangles) x.nodes ≡ true
      → image_read (image_bytes (version_of x) x) r ≡ holds x.settings (triangle_count x.triangles) x.nodes
  written_held r room =
      subst (λ (k : ℕ). room_for r k x.nodes ≡ true → image_read (image_bytes (version_of x) x) r ≡ holds x.settings k x.nodes) (good_count x good)
      (written_holds (version_of x) x (good_storable x good fit) (ap version_for (sym (good_count x good))) r) room

-- ---- what was read was laid out right
never_held : (number place t n : ℕ) (settings : Settings) → refused number place ≡ holds settings t n → ⊥
never_held number place t n settings e = let z : ◌≡◌ {A = ℕ} 0 1 = cc in omega arith

held_parts : (b : Bool) (first second : Settings) (t n t' n' : ℕ) → cond b (holds first t' n') (refused 6 0) ≡ holds second t n
    → (first ≡ second) × (t' ≡ t) × (n' ≡ n)
held_parts true first second t n t' n' e = (cc, cc, cc)
held_parts false first second t n t' n' e = absurd (never_held 6 0 t n second e)

module _ (s : List ℕ) (r : Rooms) (settings : Settings) (t n : ℕ) where
  -- what an answer says: how the image is laid out, and which settings are in it
  record Held : Type 0 where
    pub laid : laid_out image_wants s 0 ≡ bodies (image_spans (version_for t) t n)
    pub settings_are : settings_in (version_for t) s ≡ settings

  held_as : (l : Layout) → laid_out image_wants s 0 ≡ l → judged s r l ≡ holds settings t n → Held
  held_as (wrong at) e a = absurd (never_held 10 at t n settings a)
  held_as (bodies bs) e a =
      let c = counted s bs e in
      let spans : laid_out image_wants s 0 ≡ bodies (image_spans (version_for c.triangles) c.triangles c.nodes) = e ∙ ap bodies c.are in
      let b : by_room s r c.triangles c.nodes ≡ holds settings t n =
      sym (judged_by_room s r c.triangles c.nodes) ∙ ap (judged s r) (ap bodies (sym c.are)) ∙ a in
      let same = held_parts (room_for r c.triangles c.nodes) (settings_in (version_for c.triangles) s) settings t n _ _ b in
      record {
        laid = rw (same.1, same.2) at spans;
        settings_are = rw same.1 at same.0;
      }

  held : image_read s r ≡ holds settings t n → Held
  unfolding image_read
  held e = held_as (laid_out image_wants s 0) refl e

-- the settings that are answered are the image's
pub read_settings : (s : List ℕ) (r : Rooms) (settings : Settings) (t n : ℕ) → image_read s r ≡ holds settings t n → settings_in (version_for t) s ≡ settings
read_settings s r settings t n e = (held s r settings t n e).settings_are

-- ---- read, then written
module _ (s : List ℕ) (ok : Bytes s) (r : Rooms) (settings : Settings) (t n : ℕ) (read : image_read s r ≡ holds settings t n) (given : ℕ)
    (accepted : write_refusal (image_in (version_for t) s t n) given ≡ passes) where
  abbrev contents : Image
  contents = image_in (version_for t) s t n

  kept : Good contents
  kept = (write_passed contents given accepted).0

  numbers_long : length contents.triangles ≡ 9 * t
  unfolding image_in
  numbers_long = length_singles _ (9 * t)

  numbers_fit : AllFit binary32 contents.triangles
  unfolding image_in
  numbers_fit = rw (version_float t) (floats_fit s 20 (9 * t))

  corner_number : NoNan contents.triangles (9 * t)
  corner_number i h = finite_number _ (coordinate_finite _ (kept.triangles.coordinates i (omega (arith, numbers_long))))

  bound_number : NoNan contents.boxes (6 * n)
  unfolding image_in
  bound_number i h = (box_plain contents kept numbers_fit i h).number

  version_is : version_of contents ≡ version_for t
  unfolding triangle_count
  version_is = ap version_for (omega (arith, numbers_long))

  -- an image whose contents the writer accepts is written back byte for byte
  pub read_back : image_bytes (version_of contents) contents ≡ s
  read_back =
      ap (λ (v : Shape). image_bytes v contents) version_is
      ∙ rewritten s ok (version_for t) t n (version_keeps t).zero (image_is s t n (held s r settings t n read).laid) corner_number bound_number

-- one tree has one image: two images of the same contents are the same bytes, where the writer accepts the contents
pub one_image : (s : List ℕ) → Bytes s → (r : Rooms) (settings : Settings) (t n : ℕ) → image_read s r ≡ holds settings t n
    → (s₂ : List ℕ) → Bytes s₂ → (r₂ : Rooms) (settings₂ : Settings) (t₂ n₂ : ℕ) → image_read s₂ r₂ ≡ holds settings₂ t₂ n₂
    → (given : ℕ) → write_refusal (image_in (version_for t) s t n) given ≡ passes → image_in (version_for t) s t n ≡ image_in (version_for t₂) s₂ t₂ n₂ → s ≡ s₂
one_image s ok r settings t n read s₂ ok₂ r₂ settings₂ t₂ n₂ read₂ given accepted same =
    sym (read_back s ok r settings t n read given accepted)
    ∙ ap (λ (x : Image). image_bytes (version_of x) x) same
    ∙ read_back s₂ ok₂ r₂ settings₂ t₂ n₂ read₂ given (subst (λ (x : Image). write_refusal x given ≡ passes) same accepted)
