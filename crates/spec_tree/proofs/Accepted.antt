-- The tree check says yes exactly where the lists are the listing of a tree over the n triangles, which has 1 to 2n - 1 nodes.
-- Whoever holds accepted lists reasons of that tree from here on, and no longer of the test.
use mathlib.Core.Path.{◌≡◌, sym, ap, subst, subst₂, ◌∙◌}
use mathlib.Core.Bool.{true, ◌&&◌, false≢true}
use mathlib.Core.List.{List}
use Prim.Native.Nat.{ℕ, ◌+◌, ◌-◌, ◌*◌, ◌≤◌, ◌<◌}
use native.Mathlib.Omega.{arith}
use borrow.Author.Tests.{eqb-true, ltb-true, lt-ltb, leb-true, le-leb}
use lib.Dec.{leb, ltb, eqb}
use lib.ListN.{length, length-take, take}
use lib.Seq.{take-length}
use lib.Ieee.{Float, nan}
use Rattle.spec_lists.specs.Limits.{deepest}
use Rattle.spec_tables.specs.Tables as Tables
use Rattle.spec_numbers.proofs.Tests.{both_passed}
use Rattle.spec_shapes.specs.Boxes.{Box}
use Rattle.spec_tree.specs.Trees.{Tree, numbers, node_count, links_from, boxes_of}
use Rattle.spec_tree.specs.Order.{Permutes, permutes}
use Rattle.spec_tree.specs.Accepted.{Listing, Finding, wrong, spans, finding, is_whole, present, accepted}
use Rattle.spec_tree.proofs.Standing.{Stands, taken_stands, stands_slice}
use Rattle.spec_tree.proofs.Trees.{root_last, links_length, boxes_length, count_least, count_most}
use Rattle.spec_tree.proofs.Order.{test_permutes, permutes_test, permutes_length}
use Rattle.spec_tree.proofs.Found.{Room, Says, found}
use Rattle.spec_tree.proofs.Listed.{Listed, listed_found}

whole_listed : (box_at : ℕ → Box) (n : ℕ) (order links : List ℕ) (boxes : List Float) (nodes : ℕ) → Permutes n order → 0 < nodes → (f : Finding)
    → Says box_at order links boxes deepest (nodes - 1) n f → is_whole f ≡ true → (t : Tree) × Listing box_at n order links boxes nodes t
whole_listed box_at n order links boxes nodes p w wrong s h = absurd (false≢true h)
whole_listed box_at n order links boxes nodes p w (spans first entry box) s h =
    let both = both_passed (eqb first 0) (eqb entry 0) h in
    let node_0 : first ≡ 0 = eqb-true first 0 both.0 in
    let entry_0 : entry ≡ 0 = eqb-true entry 0 both.1 in
    let t : Tree = s.tree in
    let count : nodes ≡ node_count t = omega (arith, root_last first t, s.root) in
    let long : n - 0 ≡ length order = omega (arith, permutes_length n order p) in
    let all : Tables.slice order 0 (n - 0) ≡ order = ap (λ (k : ℕ). take k order) long ∙ take-length order in
    let links_at_0 : Stands 0 links 0 (links_from 0 0 t) = subst₂ (λ (i a : ℕ). Stands 0 links (3 * i) (links_from i a t)) node_0 entry_0 s.links_stand in
    let boxes_at_0 : Stands nan boxes 0 (boxes_of box_at t) = subst (λ (i : ℕ). Stands nan boxes (6 * i) (boxes_of box_at t)) node_0 s.boxes_stand in (
      t,
      record {
        order_is = sym (s.slice ∙ ap (λ (k : ℕ). Tables.slice order k (n - k)) entry_0 ∙ all);
        permuted = p;
        filled = s.filled;
        nodes_are = count;
        links_are = stands_slice 0 links (links_from 0 0 t) 0 (3 * nodes) (links_length 0 0 t ∙ ap (λ (k : ℕ). 3 * k) (sym count)) links_at_0;
        boxes_are = stands_slice nan boxes (boxes_of box_at t) 0 (6 * nodes) (boxes_length box_at t ∙ ap (λ (k : ℕ). 6 * k) (sym count)) boxes_at_0;
        shallow = s.shallow;
      },
    )

-- soundness: lists that the check accepts are the listing of a tree; laws about accepted lists start from this tree
pub accepted_listed : (box_at : ℕ → Box) (n : ℕ) (order links : List ℕ) (boxes : List Float) (nodes : ℕ)
    → accepted box_at n order links boxes nodes ≡ true → (t : Tree) × Listing box_at n order links boxes nodes t
unfolding accepted present
accepted_listed box_at n order links boxes nodes h =
    let outer = both_passed (permutes n order && present links boxes nodes) _ h in
    let inner = both_passed (permutes n order) (present links boxes nodes) outer.0 in
    let there = both_passed (ltb 0 nodes && leb (3 * nodes) (length links)) (leb (6 * nodes) (length boxes)) inner.1 in
    let some = both_passed (ltb 0 nodes) (leb (3 * nodes) (length links)) there.0 in
    let permuted : Permutes n order = test_permutes n order inner.0 in
    let one : 0 < nodes = ltb-true 0 nodes some.0 in
    let links_there : 3 * nodes ≤ length links = leb-true (3 * nodes) (length links) some.1 in
    let boxes_there : 6 * nodes ≤ length boxes = leb-true (6 * nodes) (length boxes) there.1 in
    let room : Room order links boxes (nodes - 1) n = omega (arith, permutes_length n order permuted) in
    whole_listed box_at n order links boxes nodes permuted one (finding box_at order links boxes deepest (nodes - 1) n)
    (found box_at order links boxes deepest (nodes - 1) n room) outer.1

-- ---- what a listing has
module _ (box_at : ℕ → Box) (n : ℕ) (order links : List ℕ) (boxes : List Float) (nodes : ℕ) (t : Tree) (s : Listing box_at n order links boxes nodes t) where
  -- there is a root, so a walk can begin at the last node
  pub listing_some : 1 ≤ nodes
  listing_some = omega (arith, s.nodes_are, count_least t)

  -- a tree over n triangles has at most 2n - 1 nodes, which bounds the images and lists that are lent for it
  pub listing_most : nodes + 1 ≤ 2 * n
  listing_most =
      omega (arith, s.nodes_are, count_most t s.filled, ap length s.order_is, permutes_length n order s.permuted)

  -- the links of every node are there, so reading one stays within the list
  pub listing_links : 3 * nodes ≤ length links
  listing_links = omega (arith, s.nodes_are, ap length s.links_are, length-take (3 * nodes) links, links_length 0 0 t)

  -- the boxes of every node are there, so reading one stays within the list
  pub listing_boxes : 6 * nodes ≤ length boxes
  listing_boxes = omega (arith, s.nodes_are, ap length s.boxes_are, length-take (6 * nodes) boxes, boxes_length box_at t)

  -- a whole listing is one from node 0 and order entry 0 on: laws by recursion on subtrees apply to it
  pub listing_stands : Listed box_at order links boxes 0 0 (nodes - 1) n t
  listing_stands =
      record {
        root = omega (arith, s.nodes_are, root_last 0 t);
        slice = taken_stands 0 order (numbers t) (length order) (take-length order ∙ s.order_is);
        ends = omega (arith, ap length s.order_is, permutes_length n order s.permuted);
        within = omega (arith, permutes_length n order s.permuted);
        links_stand = taken_stands 0 links (links_from 0 0 t) (3 * nodes) s.links_are;
        boxes_stand = taken_stands nan boxes (boxes_of box_at t) (6 * nodes) s.boxes_are;
      }

  -- completeness: the check accepts the listing of any tree, so what was built or written is never refused
  pub listed_accepted : accepted box_at n order links boxes nodes ≡ true
  unfolding accepted present
  listed_accepted =
      rw (
        permutes_test n order s.permuted,
        lt-ltb 0 nodes listing_some,
        le-leb (3 * nodes) (length links) listing_links,
        le-leb (6 * nodes) (length boxes) listing_boxes,
        listed_found box_at order links boxes t deepest 0 0 (nodes - 1) n s.filled s.shallow listing_stands,
      )
