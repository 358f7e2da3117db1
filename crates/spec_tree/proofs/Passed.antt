-- Lists that pass all five checks are the listing of a tree: 71 gives the permutation, 73 the tree, 74 its levels, 75 its boxes.
use mathlib.Core.Path.{◌≡◌, refl, sym, ap, ◌∙◌}
use mathlib.Core.Bool.{true}
use mathlib.Core.List.{List}
use Prim.Native.Nat.{ℕ, ◌+◌, ◌-◌, ◌*◌, ◌≤◌, ◌<◌}
use native.Mathlib.Omega.{arith}
use lib.Dec.{eqb}
use lib.ListN.{length, take}
use lib.Seq.{take-length}
use lib.Ieee.{Float, nan}
use Rattle.spec_tables.specs.Tables as Tables
use Rattle.spec_lists.specs.Refusals.{passes}
use Rattle.spec_lists.specs.Limits.{deepest}
use Rattle.spec_lists.proofs.Verdicts.{all_pass}
use Rattle.spec_shapes.specs.Boxes.{Box, union}
use Rattle.spec_tree.specs.Trees.{Tree, leaf, branch, numbers, node_count, levels, joined, box_over, root_from, links_from, boxes_of, kind_at, node_box}
use Rattle.spec_tree.specs.Order.{Permutes}
use Rattle.spec_tree.specs.Accepted.{Listing}
use Rattle.spec_tree.specs.Hangs.{leaf_slice}
use Rattle.spec_tree.specs.Reasons.{is_shallow, depth_refusal, box_given, is_boxed, box_refusal, reason}
use Rattle.spec_tree.proofs.Standing.{Stands, stands_first, stands_second, stands_three, stands_slice, taken_stands}
use Rattle.spec_tree.proofs.Nodes.{NodeLinks, links_read, box_stands, same_box_lem}
use Rattle.spec_tree.proofs.Trees.{root_last, links_length, boxes_length}
use Rattle.spec_tree.proofs.Order.{test_permutes, permutes_length}
use Rattle.spec_tree.proofs.Failing.{where_passed}
use Rattle.spec_tree.proofs.NewEntries.{order_passed}
use Rattle.spec_tree.proofs.Counted.{Counted, count_passed}
use Rattle.spec_tree.proofs.Links.{LinksStand, BranchLinks, branch_links}
use Rattle.spec_tree.proofs.Levels.{shallow_levels}
use Rattle.spec_tree.proofs.Scanned.{Whole, listing_whole}

-- ---- the boxes of a tree whose links stand, where each node has the box that it is given
module _ (box_at : ℕ → Box) (order links : List ℕ) (boxes : List Float) (nodes : ℕ) (there : 6 * nodes ≤ length boxes)
    (boxed : (k : ℕ) → k < nodes → is_boxed box_at order links boxes k ≡ true) where
  given : (kind node : ℕ) → node < nodes → kind_at links node ≡ kind → box_given box_at order links boxes (eqb kind 1) node ≡ node_box boxes node
  unfolding is_boxed
  given kind node b k = same_box_lem _ _ (rw k at (boxed node b))

  boxed_up : (t : Tree) (first start : ℕ) → Stands 0 order start (numbers t) → LinksStand links first start t → root_from first t < nodes
      → (box_over box_at t ≡ node_box boxes (root_from first t)) × Stands nan boxes (6 * first) (boxes_of box_at t)
  unfolding numbers links_from root_from box_over boxes_of
  boxed_up (leaf slice) first start p s b =
      let end : ℕ = start + length slice in
      let own : NodeLinks links first 1 start end = links_read links first 1 start end s in
      let cut : Tables.slice order start (end - start) ≡ slice = stands_slice 0 order slice start (end - start) (omega arith) p in
      let here : leaf_slice order links first ≡ slice = rw (own.left_is, own.right_is) cut in
      let box : joined box_at slice ≡ node_box boxes first = ap (joined box_at) (sym here) ∙ given 1 first b own.kind_is in
      (box, box_stands boxes first (joined box_at slice) (omega arith) box)
  boxed_up (branch l r) first start p s b =
      let mid : ℕ = first + node_count l in
      let node : ℕ = mid + node_count r in
      let h : BranchLinks links first start l r = branch_links links first start l r s in
      let right_start : ℕ = start + length (numbers l) in
      let left = boxed_up l first start (stands_first 0 order (numbers l) (numbers r) start p) h.left
      (omega (arith, h.left_next, h.mid_before, h.right_next)) in
      let right = boxed_up r mid right_start (stands_second 0 order (numbers l) (numbers r) start right_start refl p) h.right
      (omega (arith, h.right_next)) in
      let union_is : union (node_box boxes (root_from first l)) (node_box boxes (root_from mid r)) ≡ node_box boxes node =
      rw (h.own.left_is, h.own.right_is) at (given 2 node b h.own.kind_is) in
      let box : union (box_over box_at l) (box_over box_at r) ≡ node_box boxes node = (λ i. union (left.0 i) (right.0 i)) ∙ union_is in (
        box,
        stands_three nan boxes (boxes_of box_at l) (boxes_of box_at r) _ (6 * first) (6 * mid) (6 * node) (omega (arith, boxes_length box_at l))
            (omega (arith, boxes_length box_at r)) left.1 right.1 (box_stands boxes node _ (omega arith) box),
      )

-- ---- all five
module _ (box_at : ℕ → Box) (n : ℕ) (order links : List ℕ) (boxes : List Float) (nodes : ℕ) where
  listing_of : (t : Tree) → Permutes n order → Counted n links boxes nodes → Whole n order links nodes t
      → levels t ≤ deepest → ((k : ℕ) → k < nodes → is_boxed box_at order links boxes k ≡ true)
      → Listing box_at n order links boxes nodes t
  listing_of t permuted c w shallow boxed =
      let long : n ≡ length order = sym (permutes_length n order permuted) in
      let all : numbers t ≡ order = w.slice ∙ ap (λ (k : ℕ). take k order) long ∙ take-length order in
      let count : nodes ≡ node_count t = omega (arith, root_last 0 t, w.root_is) in
      let order_stands : Stands 0 order 0 (numbers t) = taken_stands 0 order (numbers t) (length order) (take-length order ∙ sym all) in
      let up = boxed_up box_at order links boxes nodes c.boxes_there boxed t 0 0 order_stands w.links_stand (omega (arith, w.root_is)) in
      record {
        order_is = sym all;
        permuted = permuted;
        filled = w.filled;
        nodes_are = count;
        links_are = stands_slice 0 links (links_from 0 0 t) 0 (3 * nodes) (links_length 0 0 t ∙ ap (λ (k : ℕ). 3 * k) (sym count)) w.links_stand;
        boxes_are = stands_slice nan boxes (boxes_of box_at t) 0 (6 * nodes) (boxes_length box_at t ∙ ap (λ (k : ℕ). 6 * k) (sym count)) up.1;
        shallow = shallow;
      }

  -- what is not refused is a listing
  pub unrefused_listing : reason box_at n order links boxes nodes ≡ passes → (t : Tree) × Listing box_at n order links boxes nodes t
  unfolding reason depth_refusal box_refusal
  unrefused_listing e =
      let five = all_pass _ e in
      let permuted : Permutes n order = test_permutes n order (order_passed n order five.0) in
      let c : Counted n links boxes nodes = count_passed n links boxes nodes five.1.0 in
      let one = listing_whole n order links (omega (arith, permutes_length n order permuted)) nodes c.links_there five.1.1.0 in
      let shallow = where_passed (is_shallow links nodes) nodes 74 five.1.1.1.0 in
      let boxed = where_passed (is_boxed box_at order links boxes) nodes 75 five.1.1.1.1.0 in
      (one.0, listing_of one.0 permuted c one.1 (shallow_levels links nodes one.0 one.1.root_is one.1.links_stand shallow) boxed)
