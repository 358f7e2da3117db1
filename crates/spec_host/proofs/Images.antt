-- What is known of an image by its layout, what reading one answers and leaves in the lists, and that every verdict of the calls over images
-- can be encoded in the status.
use mathlib.Core.Path.{◌≡◌, refl, sym, ap, ◌∙◌, subst}
use mathlib.Core.Bool.{Bool, true, false, cond, not, true≢false}
use mathlib.Core.List.{List, [], ◌∷◌}
use Prim.Native.Nat.{ℕ, ◌+◌, ◌*◌, ◌/◌, ◌^◌, ◌≤◌, ◌<◌}
use native.Mathlib.Nat.{pow-le-pow_right, mul-div_cancel_left}
use native.Mathlib.Omega.{arith}
use borrow.Author.Tests.{lt-ltb}
use lib.Dec.{eqb, ltb}
use lib.ListN.{length, length-take}
use Rattle.spec_tables.specs.Tables.{slice, overwrite}
use Rattle.spec_tables.proofs.Tables.{overwrite_none}
use Rattle.spec_records.specs.Little.{little_at, Bytes}
use Rattle.spec_records.specs.Records.{Span, Layout, wrong, bodies, Wants, done, one, size_at, body_at, is_right, behind, laid_out}
use Rattle.spec_records.specs.Layouts.{shape_by, max_small, version_for, triangle_size, node_size, image_wants, image_spans}
use Rattle.spec_records.proofs.Little.{of_little_below, bytes_slice}
use Rattle.spec_records.proofs.Layouts.{version_triangle}
use Rattle.spec_lists.specs.Refusals.{Verdict, passes, refused, refuses, first_refusal, refused_if, Settings, room_refusal}
use Rattle.spec_lists.proofs.Passed.{room_passes}
use Rattle.spec_image.specs.Image.{Image, settings_in, leaf_in, image_in}
use Rattle.spec_image.specs.Reading as Reading
use Rattle.spec_image.specs.Writing.{version_of, exact_size, leaf_refusal, write_refusal, ImageWritten, answered, image_written, bytes_after}
use Rattle.spec_image.specs.Reading.{ImageRead, room_for, triangles_in, nodes_in, judged, image_read, filled_by}
use Rattle.spec_host.specs.Status.{status, Placed, InPlace}
use Rattle.spec_host.specs.Images.{layout_by, triangles_by, nodes_by, layout_refusal, image_triangles, image_nodes, contents, WritePut, Drawing, rooms_of, read_refusal, ReadPut, short_refusal, written_status, WrittenPlaced, read_status, SmallSettings, ReadPlaced, settings_left}
use Rattle.spec_host.proofs.Status.{at_zero, no_test, then_test, triangles_encodable, settings_encodable, room_encodable, tree_encodable}

-- ---- by the layout
-- a wrong layout is refused with 10 at its place
pub wrong_refused : (s : List ℕ) (at : ℕ) → laid_out image_wants s 0 ≡ wrong at → layout_refusal s ≡ refused 10 at
unfolding layout_refusal
wrong_refused s at laid = rw laid

module _ (s : List ℕ) (t n : ℕ) (laid : laid_out image_wants s 0 ≡ bodies (image_spans (version_for t) t n)) where
  -- a right layout passes
  pub right_passes : layout_refusal s ≡ passes
  unfolding layout_refusal
  right_passes = rw laid

  -- and says how many triangles the image has
  pub right_triangles : image_triangles s ≡ t
  unfolding image_triangles image_spans
  right_triangles =
      let size : triangle_size (version_for t) * t ≡ 36 * t = ap (λ (k : ℕ). k * t) (version_triangle t) in
      let count : triangle_size (version_for t) * t / 36 ≡ t = omega arith in
      rw laid count

  -- and how many nodes
  pub right_nodes : image_nodes s ≡ n
  unfolding image_nodes image_spans
  right_nodes =
      let size : triangle_size (version_for t) * t ≡ 36 * t = ap (λ (k : ℕ). k * t) (version_triangle t) in
      let count : triangle_size (version_for t) * t / 36 ≡ t = omega arith in
      let some : 0 < node_size (version_for t) = omega arith in
      rw (laid, count, mul-div_cancel_left n {n = node_size (version_for t)} some)

  -- so it holds what is read by these counts
  pub right_contents : contents s ≡ image_in (version_for t) s t n
  unfolding contents
  right_contents = rw (right_triangles, right_nodes)

-- ---- what reading answers
-- where settings and counts are answered, the call passes, and they are those of what the image holds
record Held (image : List ℕ) (lent : Drawing) (settings : Settings) (t n : ℕ) : Type 0 where
  pub passed : read_refusal image lent ≡ passes
  pub nodes_are : n ≡ image_nodes image
  pub settings_are : settings ≡ (contents image).settings
  pub contents_are : image_in (version_for t) image t n ≡ contents image

module _ (image : List ℕ) (lent : Drawing) where
  short_settings : length lent.settings < 3 → read_refusal image lent ≡ short_refusal image
  unfolding read_refusal short_refusal room_refusal first_refusal
  short_settings short = rw (lt-ltb (length lent.settings) 3 short) (go (layout_refusal image))
    where
      go : (v : Verdict) → first_refusal (v ∷ refused 6 0 ∷ refused_if (not (room_for (rooms_of lent) (image_triangles image) (image_nodes image))) 6 0 ∷ [])
          ≡ first_refusal (v ∷ refused 6 0 ∷ [])
      go passes = refl
      go (refused number place) = refl

  abbrev answer_by : Layout → Verdict → Reading.ImageRead
  answer_by l passes = Reading.holds (settings_in (version_for (triangles_by l)) image) (triangles_by l) (nodes_by l)
  answer_by l (refused number place) = Reading.refused number place

  module _ (three : 3 ≤ length lent.settings) where
    read_as : image_read image (rooms_of lent) ≡ answer_by (laid_out image_wants image 0) (read_refusal image lent)
    unfolding image_read read_refusal layout_refusal image_triangles image_nodes first_refusal
    read_as = rw (room_passes (length lent.settings) 3 three) (go (laid_out image_wants image 0))
      where
        by_room_lem : (bs : List Span) (b : Bool)
            → cond b (Reading.holds (settings_in (version_for (triangles_in bs)) image) (triangles_in bs) (nodes_in bs)) (Reading.refused 6 0)
            ≡ answer_by (bodies bs) (first_refusal (passes ∷ passes ∷ refused_if (not b) 6 0 ∷ []))
        by_room_lem bs true = refl
        by_room_lem bs false = refl

        go : (l : Layout) → judged image (rooms_of lent) l
            ≡ answer_by l (first_refusal (layout_by l ∷ passes ∷ refused_if (not (room_for (rooms_of lent) (triangles_by l) (nodes_by l))) 6 0 ∷ []))
        go (wrong at) = refl
        go (bodies bs) = by_room_lem bs (room_for (rooms_of lent) (triangles_in bs) (nodes_in bs))

    read_refused : {number place : ℕ} → Reading.refused number place ≡ image_read image (rooms_of lent)
        → read_refusal image lent ≡ refused number place
    read_refused {number} {place} e = go (read_refusal image lent) (e ∙ read_as)
      where
        go : (v : Verdict) → Reading.refused number place ≡ answer_by (laid_out image_wants image 0) v → v ≡ refused number place
        go passes f = cc
        go (refused m q) f = cc

    read_held : {settings : Settings} {t n : ℕ} → Reading.holds settings t n ≡ image_read image (rooms_of lent) → Held image lent settings t n
    unfolding image_triangles image_nodes contents image_in
    read_held {settings} {t} {n} e = go (read_refusal image lent) refl (e ∙ read_as)
      where
        go : (v : Verdict) → read_refusal image lent ≡ v → Reading.holds settings t n ≡ answer_by (laid_out image_wants image 0) v
            → Held image lent settings t n
        go (refused m q) p f = absurd (let z : ◌≡◌ {A = ℕ} 0 1 = cc in omega arith)
        go passes p f =
            let count : t ≡ image_triangles image = cc in
            let nodes : n ≡ image_nodes image = cc in
            record { passed = p; nodes_are = nodes; settings_are = cc; contents_are = rw (count, nodes) }

-- ---- what reading leaves
-- the lists afterwards: no more than these are written
pub record Filled (x : Image) (old new : Drawing) : Type 0 where
  pub triangles : new.triangles ≡ overwrite 0 x.triangles old.triangles
  pub order : new.order ≡ overwrite 0 x.order old.order
  pub links : new.links ≡ overwrite 0 x.links old.links
  pub boxes : new.boxes ≡ overwrite 0 x.boxes old.boxes

module _ {image : List ℕ} {old new : Drawing} {r : ℕ} where
  -- where the list of the settings is short, a call that encodes the refusal and changes nothing keeps the contract
  pub read_short : length old.settings < 3 → r ≡ status (short_refusal image) 0 → new ≡ old → ReadPut image old r new
  unfolding short_refusal first_refusal
  read_short short a same = go (layout_refusal image) refl
    where
      nothing : (v : Verdict) → read_refusal image old ≡ v → refuses v ≡ true → r ≡ status v (image_nodes image) → ReadPut image old r new
      nothing passes e h b = absurd (true≢false (sym h))
      nothing (refused number place) e h b = record {
        status_is = rw e b;
        settings_are = rw e (ap (λ (d : Drawing). d.settings) same);
        triangles_are = rw e (ap (λ (d : Drawing). d.triangles) same);
        order_is = rw e (ap (λ (d : Drawing). d.order) same);
        links_are = rw e (ap (λ (d : Drawing). d.links) same);
        boxes_are = rw e (ap (λ (d : Drawing). d.boxes) same);
      }

      go : (v : Verdict) → layout_refusal image ≡ v → ReadPut image old r new
      go passes e = nothing (refused 6 0) (short_settings image old short ∙ rw e) refl (rw e at a)
      go (refused number place) e = nothing (refused number place) (short_settings image old short ∙ rw e) refl (rw e at a)

  -- where it is not, the reader's answer, encoded, and the lists that it fills keep the contract
  pub read_put : (a : ImageRead) → 3 ≤ length old.settings → a ≡ image_read image (rooms_of old) → r ≡ read_status a
      → new.settings ≡ settings_left a old.settings → Filled (filled_by image a) old new → ReadPut image old r new
  read_put (Reading.refused number place) three e b s f =
      let v = read_refused image old three e in
      record {
        status_is = rw v b;
        settings_are = rw v s;
        triangles_are = rw v (f.triangles ∙ overwrite_none 0 old.triangles);
        order_is = rw v (f.order ∙ overwrite_none 0 old.order);
        links_are = rw v (f.links ∙ overwrite_none 0 old.links);
        boxes_are = rw v (f.boxes ∙ overwrite_none 0 old.boxes);
      }
  read_put (Reading.holds settings t n) three e b s f =
      let h = read_held image old three e in
      let v = h.passed in
      record {
        status_is = rw v (b ∙ h.nodes_are);
        settings_are = rw (v, ← h.settings_are) s;
        triangles_are = rw (v, ← h.contents_are) f.triangles;
        order_is = rw (v, ← h.contents_are) f.order;
        links_are = rw (v, ← h.contents_are) f.links;
        boxes_are = rw (v, ← h.contents_are) f.boxes;
      }

-- ---- numbers of two bytes
module _ (s : List ℕ) (ok : Bytes s) where
  short : (at : ℕ) → little_at 2 s at < 65536
  unfolding little_at
  short at =
      let few : length (slice s at 2) ≤ 2 = simp length-take (omega arith) in
      let some : 0 < 256 = omega arith in
      omega (arith, of_little_below (slice s at 2) (bytes_slice s at 2 ok), pow-le-pow_right some few)

  leaf_small : (t stored : ℕ) → stored < 65536 → leaf_in (version_for t) stored ≤ 65536
  unfolding leaf_in version_for
  leaf_small t stored h = go (ltb max_small t) (eqb stored 0)
    where
      go : (wide none : Bool) → cond none (shape_by wide).zero_leaf stored ≤ 65536
      go wide false = omega arith
      go false true = omega arith
      go true true = omega arith

  -- the settings of an image fit four bytes, so they can be left in a list of u32
  pub settings_small : SmallSettings (contents s).settings
  unfolding contents image_in settings_in
  settings_small = record {
    strategy = omega (arith, short 8);
    leaf_minimum = omega (arith, leaf_small (image_triangles s) (little_at 2 s 10) (short 10));
    maximum_depth = omega (arith, short 12);
  }

-- ---- the place of a wrong record: no body is longer than four bytes can say
-- what four bytes say is below 2^32
pub size_below : (s : List ℕ) (at : ℕ) → Bytes s → size_at s at < 2 ^ 32
unfolding little_at
size_below s at ok =
    let few : length (slice s at 4) ≤ 4 = simp length-take (omega arith) in
    let some : 0 < 256 = omega arith in
    omega (arith, of_little_below (slice s at 4) (bytes_slice s at 4 ok), pow-le-pow_right some few)

abbrev Near : Layout → Type 0
Near l = InPlace (layout_by l)

near : (at : ℕ) → at < 2 ^ 56 → Near (wrong at)
near at h = record { some = omega arith; most = omega arith; near = h }

near_done : (s : List ℕ) (at : ℕ) → at < 2 ^ 56 → Near (laid_out done s at)
unfolding laid_out
near_done s at h = go (eqb at (length s))
  where
    go : (b : Bool) → Near (cond b (bodies []) (wrong at))
    go true = tt
    go false = near at h

near_one : (kind : ℕ) (test : List ℕ → Bool) (next : List ℕ → Wants) (s : List ℕ) (at : ℕ) → at < 2 ^ 56
    → Near (laid_out (next (body_at s at)) s (at + 6 + size_at s at)) → Near (laid_out (one kind test next) s at)
unfolding laid_out
near_one kind test next s at h k = go (is_right kind test s at) (laid_out (next (body_at s at)) s (at + 6 + size_at s at)) k
  where
    go : (b : Bool) (l : Layout) → Near l → Near (cond b (behind (record { start = at + 6; size = size_at s at }) l) (wrong at))
    go true (wrong place) k = k
    go true (bodies spans) k = tt
    go false l k = near at h

-- ---- verdicts that can be encoded
-- every verdict of the layout can be encoded in the status
pub layout_encodable : (s : List ℕ) → Bytes s → InPlace (layout_refusal s)
unfolding layout_refusal
layout_encodable s ok =
    let a = size_below s 0 ok in
    let second = 6 + size_at s 0 in
    let b = size_below s second ok in
    let third = second + 6 + size_at s second in
    let c = size_below s third ok in
    let fourth = third + 6 + size_at s third in
    let d = size_below s fourth ok in
    near_one _ _ _ s 0 (omega arith)
    (near_one _ _ _ s second (omega arith)
    (near_one _ _ _ s third (omega arith)
    (near_one _ _ _ s fourth (omega arith) (near_done s (fourth + 6 + size_at s fourth) (omega arith)))))

-- every verdict of reading can
pub read_encodable : (s : List ℕ) → Bytes s → (lent : Drawing) → InPlace (read_refusal s lent)
unfolding read_refusal
read_encodable s ok lent =
    then_test (layout_refusal s) _ (layout_encodable s ok)
    (λ _. then_test _ _ (room_encodable (length lent.settings) 3)
    (λ _. then_test _ [] (at_zero (not (room_for (rooms_of lent) (image_triangles s) (image_nodes s))) 6 (omega arith) (omega arith)) (λ _. no_test)))

-- every verdict of writing can
pub write_encodable : (x : Image) (given : ℕ) → InPlace (write_refusal x given)
unfolding write_refusal leaf_refusal
write_encodable x given =
    then_test _ _ (triangles_encodable x.triangles)
    (λ good. then_test _ _ (settings_encodable x.settings)
    (λ _. then_test _ _ (at_zero (ltb (version_of x).max_leaf x.settings.leaf_minimum) 5 (omega arith) (omega arith))
    (λ _. then_test _ _ (room_encodable given (exact_size x))
    (λ _. then_test _ [] (tree_encodable x.triangles x.order x.links x.boxes x.nodes good) (λ _. no_test)))))

-- ---- what is encoded
-- the place of a wrong layout can be encoded
pub wrong_placed : (s : List ℕ) → Bytes s → (at : ℕ) → laid_out image_wants s 0 ≡ wrong at → Placed 10 at
wrong_placed s ok at laid = rw (wrong_refused s at laid) at (layout_encodable s ok)

-- the reader's answer can be encoded, and its settings fit their list
pub read_placed : (s : List ℕ) → Bytes s → (lent : Drawing) → 3 ≤ length lent.settings → (a : ImageRead) → a ≡ image_read s (rooms_of lent) → ReadPlaced a
read_placed s ok lent three (Reading.refused number place) e = rw (read_refused s lent three e) at (read_encodable s ok lent)
read_placed s ok lent three (Reading.holds settings t n) e = rw (read_held s lent three e).settings_are (settings_small s ok)

-- the writer's answer can be encoded
pub written_placed : (x : Image) (given : ℕ) (a : ImageWritten) → a ≡ image_written x given → WrittenPlaced a
unfolding image_written
written_placed x given a e = subst WrittenPlaced (sym e) (go (write_refusal x given) (write_encodable x given))
  where
    go : (v : Verdict) → InPlace v → WrittenPlaced (answered v (exact_size x))
    go passes h = tt
    go (refused number place) h = h

-- and encoded, with the bytes that it leaves, keeps the contract
pub write_put : {x : Image} {old new : List ℕ} {r : ℕ} (a : ImageWritten) → a ≡ image_written x (length old) → r ≡ written_status a → new ≡ bytes_after x old
    → WritePut x old r new
unfolding image_written
write_put {x} {old} a e b f = record { status_is = b ∙ ap written_status e ∙ go (write_refusal x (length old)); bytes_are = f }
  where
    go : (v : Verdict) → written_status (answered v (exact_size x)) ≡ status v (exact_size x)
    go passes = refl
    go (refused number place) = refl
