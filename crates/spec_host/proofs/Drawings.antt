-- What a host builds, and what it writes and reads back, passes the check; the statuses of these calls are decoded without loss, and their contracts
-- leave nothing open.
use mathlib.Core.Path.{◌≡◌, refl, sym, ap, ◌∙◌, subst}
use mathlib.Core.Bool.{true}
use mathlib.Core.List.{List}
use Prim.Native.Nat.{ℕ, ◌+◌, ◌*◌, ◌^◌, ◌≤◌, ◌<◌}
use native.Mathlib.Nat.{mul-le-mul_right}
use native.Mathlib.Omega.{arith}
use borrow.Author.Tests.{le-leb}
use lib.ListN.{length, take}
use lib.Seq.{length-take-le}
use lib.Ieee.{Float, binary32}
use Rattle.spec_tables.specs.Tables.{overwrite}
use Rattle.spec_tables.proofs.Pieces.{take_overwrite}
use Rattle.spec_records.specs.Little.{Bytes}
use Rattle.spec_records.specs.Records.{Layout, wrong, bodies, laid_out}
use Rattle.spec_records.specs.Layouts.{version_for, triangle_size, node_size, order_start, image_wants, image_spans}
use Rattle.spec_records.proofs.Layouts.{version_triangle}
use Rattle.spec_lists.specs.Limits.{max_triangles}
use Rattle.spec_lists.specs.Reading.{box_at, triangle_count}
use Rattle.spec_lists.specs.Passed.{GoodTriangles, AllFit}
use Rattle.spec_lists.specs.Refusals.{Verdict, passes, Settings}
use Rattle.spec_lists.proofs.Verdicts.{all_pass, then_passes}
use Rattle.spec_lists.proofs.Passed.{triangles_pass, room_passes}
use Rattle.spec_tree.specs.Trees.{Tree, node_count, levels}
use Rattle.spec_tree.specs.Accepted.{Listing, accepted}
use Rattle.spec_tree.specs.Refusals.{check_refusal}
use Rattle.spec_tree.proofs.Unchanged.{tree_passes}
use Rattle.spec_tree.proofs.Accepted.{listed_accepted}
use Rattle.spec_build.specs.Build.{built_tree, Lists, build_refusal, made, answer_by, BuildIs}
use Rattle.spec_build.proofs.Built.{whole_nodes}
use Rattle.spec_build.proofs.Build.{build_passed, build_is_unique, built_whole, made_listing}
use Rattle.spec_image.specs.Image.{Image, image_bytes, image_in}
use Rattle.spec_image.specs.Stored.{used}
use Rattle.spec_image.specs.Reading.{room_for}
use Rattle.spec_image.specs.Writing.{version_of, exact_size, write_refusal}
use Rattle.spec_image.proofs.Laid.{counted}
use Rattle.spec_image.proofs.Sizes.{image_is}
use Rattle.spec_image.proofs.Versions.{version_keeps}
use Rattle.spec_image.proofs.Written.{written_laid}
use Rattle.spec_image.proofs.Writing.{Good, good_count, good_complete, good_nodes, good_size, write_passed, write_passes}
use Rattle.spec_image.proofs.Kept.{good_storable, written_front, written_back}
use Rattle.spec_host.specs.Status.{status, Decoded}
use Rattle.spec_host.specs.Build.{BuildPut}
use Rattle.spec_host.specs.Images.{image_max, layout_by, layout_refusal, image_triangles, image_nodes, contents, WritePut, Drawing, rooms_of, read_refusal, settings_list, ReadPut}
use Rattle.spec_host.proofs.Status.{decoded}
use Rattle.spec_host.proofs.Images.{right_passes, right_triangles, right_nodes, right_contents, size_below, layout_encodable, read_encodable, write_encodable}
use Rattle.spec_host.proofs.Build.{build_encodable}

-- ---- the check of lists that are the listing of a tree
listing_passes : (triangles : List Float) (order links : List ℕ) (boxes : List Float) (nodes : ℕ) (t : Tree) → GoodTriangles triangles
    → Listing (box_at triangles) (triangle_count triangles) order links boxes nodes t → check_refusal triangles order links boxes nodes ≡ passes
unfolding check_refusal
listing_passes triangles order links boxes nodes t good l =
    let yes : accepted (box_at triangles) (triangle_count triangles) order links boxes nodes ≡ true =
    listed_accepted (box_at triangles) (triangle_count triangles) order links boxes nodes t l in
    then_passes _ (triangles_pass triangles good, (tree_passes triangles order links boxes nodes yes, tt))

-- ---- built
module _ {triangles : List Float} {s : Settings} {old new : Lists} {r : ℕ} (p : BuildPut triangles s old r new)
    (accepts : build_refusal triangles s old ≡ passes) where
  abbrev n : ℕ
  n = triangle_count triangles

  abbrev t : Tree
  t = built_tree binary32 triangles s

  nodes_are : r ≡ node_count t
  nodes_are = rw accepts at p.status_is

  built_listing : Listing (box_at triangles) n (take n new.order) new.links new.boxes r t
  built_listing =
      let is : BuildIs binary32 triangles s old (made (node_count t) (levels t)) new =
      subst (λ (v : Verdict). BuildIs binary32 triangles s old (answer_by v t) new) accepts p.lists_are in
      rw nodes_are (made_listing binary32 triangles s old new (node_count t) (levels t) is)

  -- a drawing that is built passes the check, as many nodes as the status says
  pub built_passes : check_refusal triangles (take n new.order) new.links new.boxes r ≡ passes
  built_passes = listing_passes triangles _ new.links new.boxes r t (build_passed triangles s old accepts).triangles_good built_listing

  -- what the writer is given of it
  abbrev pub built : Image
  built = record { settings = s; triangles = triangles; order = take n new.order; nodes = r; links = new.links; boxes = new.boxes }

  -- the writer accepts it, where the version keeps its leaf minimum and the room is not short
  pub built_written : s.leaf_minimum ≤ (version_for n).max_leaf → (given : ℕ) → exact_size built ≤ given → write_refusal built given ≡ passes
  built_written leaf given room =
      let passed = build_passed triangles s old accepts in
      write_passes built given
      (record { triangles = passed.triangles_good; settings = passed.settings_good; leaf_kept = leaf; tree = t; listing = built_listing }) room

-- ---- written, then read back
-- what reading back leaves at the front of the lists is what the writer was given
pub record ReadBack (x : Image) (after : Drawing) : Type 0 where
  pub settings : take 3 after.settings ≡ settings_list x.settings
  pub triangles : take (length x.triangles) after.triangles ≡ x.triangles
  pub order : take (length x.order) after.order ≡ x.order
  pub links : take (3 * x.nodes) after.links ≡ take (3 * x.nodes) x.links
  pub boxes : take (6 * x.nodes) after.boxes ≡ take (6 * x.nodes) x.boxes

front : {A : Type 0} (n : ℕ) (new old after : List A) → length new ≡ n → after ≡ overwrite 0 new old → take n after ≡ new
front n new old after long e = ap (take n) e ∙ take_overwrite n new old long

module _ {x : Image} {out new : List ℕ} {r : ℕ} (p : WritePut x out r new) (accepts : write_refusal x (length out) ≡ passes)
    (fit : AllFit binary32 x.triangles) where
  good : Good x
  good = (write_passed x (length out) accepts).0

  -- the image, as many bytes as the status says
  abbrev pub image : List ℕ
  image = take r new

  image_are : image ≡ image_bytes (version_of x) x
  image_are =
      let size : r ≡ exact_size x = rw accepts at p.status_is in
      (λ i. take (size i) (p.bytes_are i)) ∙ written_front x out accepts

  laid : laid_out image_wants image 0 ≡ bodies (image_spans (version_of x) (triangle_count x.triangles) x.nodes)
  laid =
      let count = good_count x good in
      rw image_are (rw count at (written_laid (version_of x) x (good_storable x good fit) (ap version_for (sym count))))

  -- what was written holds what the writer was given, without what stands behind the nodes' links and boxes
  pub written_contents : contents image ≡ used x
  written_contents =
      right_contents image (triangle_count x.triangles) x.nodes laid
      ∙ ap (λ (s : List ℕ). image_in (version_of x) s (triangle_count x.triangles) x.nodes) image_are ∙ written_back x (length out) fit accepts

  -- it is read back wherever the lists have room
  pub written_reads : (lent : Drawing) → 3 ≤ length lent.settings → room_for (rooms_of lent) (triangle_count x.triangles) x.nodes ≡ true
      → read_refusal image lent ≡ passes
  unfolding read_refusal
  written_reads lent three room =
      let n = triangle_count x.triangles in
      then_passes _ (
        right_passes image n x.nodes laid,
        (room_passes _ 3 three, (rw (right_triangles image n x.nodes laid, right_nodes image n x.nodes laid, room), tt)),
      )

  module _ {old after : Drawing} {nodes : ℕ} (q : ReadPut image old nodes after) (reads : read_refusal image old ≡ passes) where
    -- as many nodes come back as were written
    pub back_nodes : nodes ≡ x.nodes
    back_nodes = rw reads at q.status_is ∙ right_nodes image (triangle_count x.triangles) x.nodes laid

    -- and the same lists
    pub read_back : ReadBack x after
    read_back =
        let whole = good_complete x good in
        record {
          settings = front 3 _ _ _ refl (rw (reads, written_contents) at q.settings_are);
          triangles = front _ _ _ _ refl (rw (reads, written_contents) at q.triangles_are);
          order = front _ _ _ _ refl (rw (reads, written_contents) at q.order_is);
          links = front (3 * x.nodes) _ _ _ (length-take-le (3 * x.nodes) x.links whole.linked) (rw (reads, written_contents) at q.links_are);
          boxes = front (6 * x.nodes) _ _ _ (length-take-le (6 * x.nodes) x.boxes whole.boxed) (rw (reads, written_contents) at q.boxes_are);
        }

    -- what comes back passes the check
    pub written_passes : check_refusal (take (length x.triangles) after.triangles) (take (length x.order) after.order) after.links
        after.boxes nodes ≡ passes
    written_passes =
        let l = good.listing in
        let same : Listing (box_at x.triangles) (triangle_count x.triangles) x.order after.links after.boxes x.nodes good.tree = record {
          order_is = l.order_is;
          permuted = l.permuted;
          filled = l.filled;
          nodes_are = l.nodes_are;
          links_are = read_back.links ∙ l.links_are;
          boxes_are = read_back.boxes ∙ l.boxes_are;
          shallow = l.shallow;
        } in
        rw (read_back.triangles, read_back.order, back_nodes)
        (listing_passes x.triangles x.order after.links after.boxes x.nodes good.tree good.triangles same)

-- ---- sizes
-- the maximum size that a host can ask for is enough for every image that the writer accepts
pub max_is_enough : (x : Image) (given : ℕ) → write_refusal x given ≡ passes → exact_size x ≤ image_max (triangle_count x.triangles)
unfolding image_max
max_is_enough x given accepts =
    let good = (write_passed x given accepts).0 in
    let n = triangle_count x.triangles in
    rw (le-leb 1 n good.triangles.some, le-leb n max_triangles good.triangles.few) (good_size x good)

written_small : (x : Image) (given : ℕ) → write_refusal x given ≡ passes → exact_size x < 2 ^ 56
written_small x given accepts =
    let good = (write_passed x given accepts).0 in
    let few = good.triangles.few in
    let keeps = version_keeps (triangle_count x.triangles) in
    omega (arith, keeps.triangles few, keeps.order few, keeps.nodes few x.nodes (good_nodes x good))

-- no body is longer than four bytes can say, so the counts of a right layout are small
counts_small : (s : List ℕ) → Bytes s → layout_refusal s ≡ passes → (image_triangles s < 2 ^ 32) × (image_nodes s < 2 ^ 32)
unfolding layout_refusal
counts_small s ok right = go (laid_out image_wants s 0) refl right
  where
    go : (l : Layout) → laid_out image_wants s 0 ≡ l → layout_by l ≡ passes → (image_triangles s < 2 ^ 32) × (image_nodes s < 2 ^ 32)
    go (wrong at) e f = absurd (let z : ◌≡◌ {A = ℕ} 0 1 = cc in omega arith)
    go (bodies bs) e f =
        let c = counted s bs e in
        let t = c.triangles in
        let n = c.nodes in
        let laid = e ∙ ap bodies c.are in
        let is = image_is s t n laid in
        let size : triangle_size (version_for t) * t ≡ 36 * t = ap (λ (k : ℕ). k * t) (version_triangle t) in
        let some : 1 ≤ node_size (version_for t) = omega arith in
        let few : 36 * t < 2 ^ 32 = omega (arith, is.size2, size_below s 14 ok) in
        let last = size_below s (order_start (version_for t) t + (version_for t).entry * t) ok in
        let few_nodes : n < 2 ^ 32 = omega (arith, is.size4, last, mul-le-mul_right n some) in
        (rw (right_triangles s t n laid) (omega arith), rw (right_nodes s t n laid) few_nodes)

-- ---- the status is decoded
-- the status of asking for an image's triangles is decoded without loss
pub triangles_decoded : (s : List ℕ) → Bytes s
    → Decoded (layout_refusal s) (image_triangles s) (status (layout_refusal s) (image_triangles s))
triangles_decoded s ok =
    decoded (layout_refusal s) (image_triangles s) (layout_encodable s ok) (λ right. omega (arith, (counts_small s ok right).0))

-- so is that of reading
pub read_decoded : (s : List ℕ) → Bytes s → (lent : Drawing)
    → Decoded (read_refusal s lent) (image_nodes s) (status (read_refusal s lent) (image_nodes s))
unfolding read_refusal
read_decoded s ok lent =
    decoded (read_refusal s lent) (image_nodes s) (read_encodable s ok lent) (λ e. omega (arith, (counts_small s ok (all_pass _ e).0).1))

-- that of writing
pub write_decoded : (x : Image) (given : ℕ) → Decoded (write_refusal x given) (exact_size x) (status (write_refusal x given) (exact_size x))
write_decoded x given = decoded (write_refusal x given) (exact_size x) (write_encodable x given) (written_small x given)

-- and that of the build
pub build_decoded : (triangles : List Float) (s : Settings) (lent : Lists)
    → Decoded (build_refusal triangles s lent) (node_count (built_tree binary32 triangles s))
    (status (build_refusal triangles s lent) (node_count (built_tree binary32 triangles s)))
build_decoded triangles s lent =
    decoded (build_refusal triangles s lent) (node_count (built_tree binary32 triangles s)) (build_encodable triangles s lent)
    (λ e.
    let p = build_passed triangles s lent e in
    omega (arith, whole_nodes (built_whole binary32 triangles s p.triangles_good p.settings_good), p.triangles_good.few))

-- ---- the contracts leave nothing open
-- status and lists of a build are fixed by what it is called with
pub build_put_unique : {triangles : List Float} {s : Settings} {old new new₂ : Lists} {r r₂ : ℕ} → BuildPut triangles s old r new
    → BuildPut triangles s old r₂ new₂ → (r ≡ r₂) × (new ≡ new₂)
build_put_unique {triangles} {s} p q = (p.status_is ∙ sym q.status_is, (build_is_unique binary32 triangles s p.lists_are q.lists_are).1)

-- status and bytes of writing
pub write_put_unique : {x : Image} {old new new₂ : List ℕ} {r r₂ : ℕ} → WritePut x old r new → WritePut x old r₂ new₂ → (r ≡ r₂) × (new ≡ new₂)
write_put_unique p q = (p.status_is ∙ sym q.status_is, p.bytes_are ∙ sym q.bytes_are)

-- status and lists of reading
pub read_put_unique : {image : List ℕ} {old new new₂ : Drawing} {r r₂ : ℕ} → ReadPut image old r new → ReadPut image old r₂ new₂
    → (r ≡ r₂) × (new ≡ new₂)
read_put_unique p q =
    let settings = p.settings_are ∙ sym q.settings_are in
    let triangles = p.triangles_are ∙ sym q.triangles_are in
    let order = p.order_is ∙ sym q.order_is in
    let links = p.links_are ∙ sym q.links_are in
    let boxes = p.boxes_are ∙ sym q.boxes_are in
    (p.status_is ∙ sym q.status_is, λ i. record { settings = settings i; triangles = triangles i; order = order i; links = links i; boxes = boxes i })
