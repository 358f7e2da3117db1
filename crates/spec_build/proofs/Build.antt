-- Every tree that is built is accepted, by both strategies and at all settings in range: what the call leaves in the lists passes the tree check,
-- its depth is the one that is read off its links, and it has at most 2n - 1 nodes.
use mathlib.Core.Path.{◌≡◌, refl, sym, ap, ◌∙◌}
use mathlib.Core.Bool.{Bool, true, false}
use mathlib.Core.List.{List}
use Prim.Native.Nat.{ℕ, ◌+◌, ◌*◌, ◌≤◌, ◌<◌}
use native.Mathlib.Omega.{arith}
use lib.ListN.{take}
use lib.Ieee.{Float, Format}
use Rattle.spec_tables.specs.Tables.{overwrite}
use Rattle.spec_numbers.proofs.Tests.{failed}
use Rattle.spec_lists.specs.Reading.{box_at, triangle_count}
use Rattle.spec_lists.specs.Refusals.{Verdict, passes, refused, refuses, triangles_refusal, Settings}
use Rattle.spec_lists.specs.Passed.{GoodTriangles, GoodSettings}
use Rattle.spec_lists.proofs.Verdicts.{all_pass, then_passes}
use Rattle.spec_lists.proofs.Passed.{triangles_passed, triangles_pass, settings_passed, settings_pass, room_passed, room_passes}
use Rattle.spec_lists.proofs.Reading.{triangle_inside, box_at_proper}
use Rattle.spec_tree.specs.Trees.{Tree, numbers, node_count, levels, links_from, boxes_of}
use Rattle.spec_tree.specs.Accepted.{Listing, accepted}
use Rattle.spec_tree.specs.Depth.{depth_of}
use Rattle.spec_tree.proofs.Accepted.{listed_accepted}
use Rattle.spec_tree.proofs.Depth.{listing_depth}
use Rattle.spec_build.specs.Build.{built_tree, Lists, build_refusal, Built, made, answer_by, left_by, BuildIs, Passed}
use Rattle.spec_build.proofs.Centres.{centre_number}
use Rattle.spec_build.proofs.Inside.{HasCentre, tries_inside}
use Rattle.spec_build.proofs.Built.{Whole, whole_nodes, whole_listing, grown_whole}

-- ---- what passed
-- tests that passed give what the build needs: good triangles, good settings, room in each list
pub build_passed : (triangles : List Float) (s : Settings) (lent : Lists) → build_refusal triangles s lent ≡ passes → Passed triangles s lent
unfolding build_refusal
build_passed triangles s lent e =
    let p = all_pass _ e in
    let rooms = p.1.1 in
    let working = rooms.1.1.1 in
    record {
      triangles_good = triangles_passed triangles p.0;
      settings_good = settings_passed s p.1.0;
      order_room = room_passed _ _ rooms.0;
      links_room = room_passed _ _ rooms.1.0;
      boxes_room = room_passed _ _ rooms.1.1.0;
      bounds_room = room_passed _ _ working.0;
      centres_room = room_passed _ _ working.1.0;
      scratch_room = room_passed _ _ working.1.1.0;
    }

-- good triangles, good settings and room in each list are never refused
pub build_passes : (triangles : List Float) (s : Settings) (lent : Lists) → Passed triangles s lent → build_refusal triangles s lent ≡ passes
unfolding build_refusal
build_passes triangles s lent p =
    then_passes _ (
      triangles_pass triangles p.triangles_good,
      (
        settings_pass s p.settings_good,
        (
          room_passes _ _ p.order_room,
          (
            room_passes _ _ p.links_room,
            (
              room_passes _ _ p.boxes_room,
              (
                room_passes _ _ p.bounds_room,
                (
                  room_passes _ _ p.centres_room,
                  (room_passes _ _ p.scratch_room, tt),
                ),
              ),
            ),
          ),
        ),
      ),
    )

-- a test that did not refuse passed
not_refusing : (v : Verdict) (b : Bool) → b ≡ refuses v → b ≡ false → v ≡ passes
not_refusing passes b r e = refl
not_refusing (refused number place) b r e = absurd (failed (sym r ∙ e))

-- triangles that were tested and not refused are good
pub triangles_known : (triangles : List Float) (v : Verdict) (b : Bool) → v ≡ triangles_refusal triangles → b ≡ refuses v → b ≡ false → GoodTriangles triangles
triangles_known triangles v b t r e = triangles_passed triangles (sym t ∙ not_refusing v b r e)

-- ---- the tree
triangles_centred : (f : Format) (triangles : List Float) → GoodTriangles triangles → (t : ℕ) → t < triangle_count triangles → HasCentre f (box_at triangles) t
triangles_centred f triangles g t h = centre_number f (box_at triangles t) (box_at_proper triangles g.coordinates t (triangle_inside triangles t h))

-- the tree as defined holds all n triangles, has no empty leaf and is not too deep
pub built_whole : (f : Format) (triangles : List Float) (s : Settings) → GoodTriangles triangles → GoodSettings s
    → Whole (triangle_count triangles) (built_tree f triangles s)
unfolding built_tree
built_whole f triangles s g h =
    grown_whole (tries_inside f (box_at triangles) s.strategy) s.leaf_minimum s.maximum_depth (triangle_count triangles) h.leaf h.depth g.some
    (triangles_centred f triangles g)

-- ---- the call
-- its answer and its lists are fixed by what it is called with
pub build_is_unique : (f : Format) (triangles : List Float) (s : Settings) {old : Lists} {a b : Built} {new new₂ : Lists}
    → BuildIs f triangles s old a new → BuildIs f triangles s old b new₂ → (a ≡ b) × (new ≡ new₂)
build_is_unique f triangles s p q =
    let order = p.order_is ∙ sym q.order_is in
    let links = p.links_are ∙ sym q.links_are in
    let boxes = p.boxes_are ∙ sym q.boxes_are in
    let bounds = p.bounds_are ∙ sym q.bounds_are in
    let centres = p.centres_are ∙ sym q.centres_are in
    let scratch = p.scratch_is ∙ sym q.scratch_is in (
      p.answer_is ∙ sym q.answer_is,
      λ i. record { order = order i; links = links i; boxes = boxes i; bounds = bounds i; centres = centres i; scratch = scratch i },
    )

module _ (f : Format) (triangles : List Float) (s : Settings) (old new : Lists) (nodes depth : ℕ)
    (b : BuildIs f triangles s old (made nodes depth) new) where
  never_both : (v : Verdict) → made nodes depth ≡ answer_by v (built_tree f triangles s) → v ≡ passes
  never_both passes e = refl
  never_both (refused number place) e = absurd (let z : ◌≡◌ {A = ℕ} 0 1 = cc in omega arith)

  -- a tree is answered only where the tests passed
  pub made_passed : build_refusal triangles s old ≡ passes
  made_passed = never_both (build_refusal triangles s old) b.answer_is

  made_answer : made nodes depth ≡ made (node_count (built_tree f triangles s)) (levels (built_tree f triangles s))
  made_answer = b.answer_is ∙ ap (λ (v : Verdict). answer_by v (built_tree f triangles s)) made_passed

  -- the node count that is answered is the tree's
  pub made_nodes : nodes ≡ node_count (built_tree f triangles s)
  made_nodes = let e = made_answer in cc

  -- the depth that is answered is the tree's number of levels
  pub made_depth : depth ≡ levels (built_tree f triangles s)
  made_depth = let e = made_answer in cc

  whole : Whole (triangle_count triangles) (built_tree f triangles s)
  whole = let p = build_passed triangles s old made_passed in built_whole f triangles s p.triangles_good p.settings_good

  -- a tree over n triangles has at most 2n - 1 nodes: the room that the call asks for is enough
  pub made_few : nodes + 1 ≤ 2 * triangle_count triangles
  made_few = omega (arith, made_nodes, whole_nodes whole)

  -- after the call the lists hold the listing of the tree
  pub made_listing : Listing (box_at triangles) (triangle_count triangles) (take (triangle_count triangles) new.order) new.links new.boxes nodes
      (built_tree f triangles s)
  made_listing =
      let t : Tree = built_tree f triangles s in
      let o : new.order ≡ overwrite 0 (numbers t) old.order = b.order_is ∙ ap (λ (v : Verdict). left_by v (numbers t) old.order) made_passed in
      let l : new.links ≡ overwrite 0 (links_from 0 0 t) old.links = b.links_are
      ∙ ap (λ (v : Verdict). left_by v (links_from 0 0 t) old.links) made_passed in
      let x : new.boxes ≡ overwrite 0 (boxes_of (box_at triangles) t) old.boxes = b.boxes_are
      ∙ ap (λ (v : Verdict). left_by v (boxes_of (box_at triangles) t) old.boxes) made_passed in
      rw (o, l, x, made_nodes) (whole_listing whole (box_at triangles) old.order old.links old.boxes)

  -- the tree that is built passes the tree check
  pub made_accepted : accepted (box_at triangles) (triangle_count triangles) (take (triangle_count triangles) new.order) new.links new.boxes nodes ≡ true
  made_accepted = listed_accepted (box_at triangles) _ _ _ _ _ (built_tree f triangles s) made_listing

  -- the depth that is answered is the one that is read off the links
  pub made_depth_read : depth_of new.links nodes ≡ depth
  made_depth_read = listing_depth (box_at triangles) _ _ _ _ _ (built_tree f triangles s) made_listing ∙ sym made_depth
