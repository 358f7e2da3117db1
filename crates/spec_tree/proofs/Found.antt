-- Soundness of the tree check: a subtree that is not found wrong is the listing of a tree.
use mathlib.Core.Path.{◌≡◌, refl, sym, ap, ◌∙◌}
use mathlib.Core.Bool.{Bool, true, false, cond, ◌&&◌}
use mathlib.Core.List.{List, ◌++◌}
use Prim.Native.Nat.{ℕ, zero, suc, ◌+◌, ◌-◌, ◌*◌, ◌≤◌, ◌<◌}
use native.Mathlib.Omega.{arith}
use borrow.Author.Tests.{eqb-true, ltb-true}
use lib.Dec.{ltb, eqb}
use lib.ListN.{length, length-append}
use lib.Ieee.{Float, nan}
use Rattle.spec_tables.specs.Tables as Tables
use Rattle.spec_numbers.proofs.Tests.{both_passed}
use Rattle.spec_shapes.specs.Boxes.{Box, union}
use Rattle.spec_tree.specs.Trees.{Tree, leaf, branch, numbers, node_count, levels, Filled, joined, box_over, root_from, links_from, boxes_of, kind_at, left_at, right_at, node_box}
use Rattle.spec_tree.specs.Accepted.{same_box, Finding, wrong, spans, boxed, leaf_finding, left_found, left_tried, right_found, right_tried, by_kind, finding}
use Rattle.spec_tree.proofs.Standing.{Stands, stands_three, slice_join, slice_length}
use Rattle.spec_tree.proofs.Nodes.{same_box_lem, links_stand, box_stands}
use Rattle.spec_tree.proofs.Trees.{root_last, links_length, boxes_length, count_least}

-- what a look at a node needs: the node is there, and its triangles end within the order list
pub record Room (order links : List ℕ) (boxes : List Float) (node last : ℕ) : Type 0 where
  pub links_there : 3 * node + 3 ≤ length links
  pub boxes_there : 6 * node + 6 ≤ length boxes
  pub order_there : last ≤ length order

module _ (box_at : ℕ → Box) (order links : List ℕ) (boxes : List Float) where
  -- the tree that was found, with at most `most` levels, its root at this node, its triangles ending before `last`
  pub record Found (most node last first entry : ℕ) (box : Box) : Type 0 where
    pub tree : Tree
    pub filled : Filled tree
    pub shallow : levels tree ≤ most
    pub root : root_from first tree ≡ node
    pub slice : numbers tree ≡ Tables.slice order entry (last - entry)
    pub ends : entry + length (numbers tree) ≡ last
    pub under : box ≡ box_over box_at tree
    pub links_stand : Stands 0 links (3 * first) (links_from first entry tree)
    pub boxes_stand : Stands nan boxes (6 * first) (boxes_of box_at tree)

  -- what a finding promises: of a wrong one nothing, of a span the tree that was found
  abbrev pub Says : ℕ → ℕ → ℕ → Finding → Type 0
  Says most node last wrong = Unit {0}
  Says most node last (spans first entry box) = Found most node last first entry box

  -- a leaf
  leaf_found : (most node last : ℕ) → 3 * node + 3 ≤ length links → 6 * node + 6 ≤ length boxes → last ≤ length order
      → kind_at links node ≡ 1 → left_at links node < last → right_at links node ≡ last
      → joined box_at (Tables.slice order (left_at links node) (last - left_at links node)) ≡ node_box boxes node
      → Found (suc most) node last node (left_at links node) (joined box_at (Tables.slice order (left_at links node) (last - left_at links node)))
  unfolding numbers levels root_from box_over links_from boxes_of
  leaf_found most node last wl wb wo k l r b =
      let slice = Tables.slice order (left_at links node) (last - left_at links node) in
      let long : length slice ≡ last - left_at links node = slice_length order (left_at links node) (last - left_at links node) (omega arith) in
      let end : left_at links node + length slice ≡ last = omega arith in
      record {
        tree = leaf slice;
        filled = omega arith;
        shallow = omega arith;
        root = refl;
        slice = refl;
        ends = end;
        under = refl;
        links_stand = links_stand links node 1 (left_at links node) (left_at links node + length slice) wl k refl (omega arith);
        boxes_stand = box_stands boxes node (joined box_at slice) wb b;
      }

  -- a branch, of what is found below it
  branch_found : (most node last first entry first' entry' : ℕ) (leftBox rightBox : Box) → 3 * node + 3 ≤ length links → 6 * node + 6 ≤ length boxes
      → last ≤ length order
      → kind_at links node ≡ 2 → right_at links node + 1 ≡ node → left_at links node + 1 ≡ first' → union leftBox rightBox ≡ node_box boxes node
      → Found most (right_at links node) last first' entry' rightBox → Found most (left_at links node) entry' first entry leftBox
      → Found (suc most) node last first entry (union leftBox rightBox)
  unfolding numbers levels root_from box_over links_from boxes_of
  branch_found most node last first entry first' entry' leftBox rightBox wl wb wo k r l b right left =
      let lt = left.tree in
      let rt = right.tree in
      let left_count : first + node_count lt ≡ first' = omega (arith, root_last first lt, left.root) in
      let right_count : first' + node_count rt ≡ node = omega (arith, root_last first' rt, right.root) in
      let left_end : entry + length (numbers lt) ≡ entry' = left.ends in
      record {
        tree = branch lt rt;
        filled = (left.filled, right.filled);
        shallow = omega (arith, left.shallow, right.shallow);
        root = omega arith;
        slice = (λ i. left.slice i ++ right.slice i) ∙ slice_join order entry entry' last (omega arith) (omega (arith, right.ends));
        ends = omega (arith, length-append (numbers lt) (numbers rt), right.ends);
        under = λ i. union (left.under i) (right.under i);
        links_stand =
            stands_three 0 links (links_from first entry lt) (links_from (first + node_count lt) (entry + length (numbers lt)) rt) _ (3 * first)
            (3 * first') (3 * node)
            (omega (arith, links_length first entry lt)) (omega (arith, links_length (first + node_count lt) (entry + length (numbers lt)) rt))
            left.links_stand (rw (left_count, left_end) right.links_stand)
            (links_stand links node 2 (root_from first lt) (root_from (first + node_count lt) rt) wl k (sym left.root)
            (sym right.root ∙ ap (λ (i : ℕ). root_from i rt) (sym left_count)));
        boxes_stand =
            stands_three nan boxes (boxes_of box_at lt) (boxes_of box_at rt) _ (6 * first) (6 * first') (6 * node)
            (omega (arith, boxes_length box_at lt)) (omega (arith, boxes_length box_at rt)) left.boxes_stand right.boxes_stand
            (box_stands boxes node (union (box_over box_at lt) (box_over box_at rt)) wb ((λ i. union (sym left.under i) (sym right.under i)) ∙ b));
      }

  -- the check, step by step: each finding keeps its promise
  leaf_says : (most node last : ℕ) → Room order links boxes node last → kind_at links node ≡ 1
      → Says (suc most) node last (leaf_finding box_at order links boxes node last)
  unfolding leaf_finding boxed
  leaf_says most node last w k = in_range (ltb entry last && eqb (right_at links node) last) refl
    where
      entry : ℕ
      entry = left_at links node

      box : Box
      box = joined box_at (Tables.slice order entry (last - entry))

      same_boxes : (b : Bool) → same_box box (node_box boxes node) ≡ b → entry < last → right_at links node ≡ last
          → Says (suc most) node last (cond b (spans node entry box) wrong)
      same_boxes true p h r = leaf_found most node last w.links_there w.boxes_there w.order_there k h r (same_box_lem box (node_box boxes node) p)
      same_boxes false p h r = tt

      in_range : (b : Bool) → (ltb entry last && eqb (right_at links node) last) ≡ b
          → Says (suc most) node last (cond b (boxed boxes node node entry box) wrong)
      in_range true p =
          let both = both_passed (ltb entry last) (eqb (right_at links node) last) p in
          same_boxes (same_box box (node_box boxes node)) refl (ltb-true entry last both.0) (eqb-true (right_at links node) last both.1)
      in_range false p = tt

  module _ (most node last : ℕ) (w : Room order links boxes node last) (k : kind_at links node ≡ 2) (r : right_at links node + 1 ≡ node)
      (below : ℕ → ℕ → Finding) (says : (node' last' : ℕ) → Room order links boxes node' last' → Says most node' last' (below node' last')) where
    left_says : (first entry : ℕ) (rightBox : Box) → Found most (right_at links node) last first entry rightBox → left_at links node + 1 ≡ first → (f : Finding)
        → Says most (left_at links node) entry f
        → Says (suc most) node last (left_found boxes node rightBox f)
    unfolding boxed
    left_says first entry rightBox right l wrong s = tt
    left_says first entry rightBox right l (spans first' entry' leftBox) s = at (same_box (union leftBox rightBox) (node_box boxes node)) refl
      where
        at : (b : Bool) → same_box (union leftBox rightBox) (node_box boxes node) ≡ b
            → Says (suc most) node last (cond b (spans first' entry' (union leftBox rightBox)) wrong)
        at true p =
            branch_found most node last first' entry' first entry leftBox rightBox w.links_there w.boxes_there w.order_there k r l
            (same_box_lem (union leftBox rightBox) (node_box boxes node) p) right s
        at false p = tt

    right_says : (f : Finding) → Says most (right_at links node) last f → Says (suc most) node last (right_found box_at order links boxes below node f)
    right_says wrong s = tt
    right_says (spans first entry rightBox) s = at (eqb (left_at links node + 1) first) refl
      where
        at : (b : Bool) → eqb (left_at links node + 1) first ≡ b → Says (suc most) node last (left_tried box_at order links boxes b below node entry rightBox)
        at true p =
            let l : left_at links node + 1 ≡ first = eqb-true (left_at links node + 1) first p in
            let inside : first ≤ right_at links node = omega (arith, root_last first s.tree, s.root, count_least s.tree) in
            let ends : entry ≤ last = omega (arith, s.ends) in
            let left_room : Room order links boxes (left_at links node) entry = omega (arith, w) in
            left_says first entry rightBox s l (below (left_at links node) entry) (says (left_at links node) entry left_room)
        at false p = tt

  branch_says : (most node last : ℕ) → Room order links boxes node last → kind_at links node ≡ 2 → (below : ℕ → ℕ → Finding)
      → ((node' last' : ℕ) → Room order links boxes node' last' → Says most node' last' (below node' last'))
      → (b : Bool) → eqb (right_at links node + 1) node ≡ b → Says (suc most) node last (right_tried box_at order links boxes b below node last)
  branch_says most node last w k below says true p =
      let r : right_at links node + 1 ≡ node = eqb-true (right_at links node + 1) node p in
      let right_room : Room order links boxes (right_at links node) last = omega (arith, w) in
      right_says most node last w k r below says (below (right_at links node) last) (says (right_at links node) last right_room)
  branch_says most node last w k below says false p = tt

  kind_says : (most node last : ℕ) → Room order links boxes node last → (below : ℕ → ℕ → Finding)
      → ((node' last' : ℕ) → Room order links boxes node' last' → Says most node' last' (below node' last'))
      → (a b : Bool) → eqb (kind_at links node) 1 ≡ a → eqb (kind_at links node) 2 ≡ b
      → Says (suc most) node last (by_kind box_at order links boxes a b below node last)
  kind_says most node last w below says true b p q = leaf_says most node last w (eqb-true (kind_at links node) 1 p)
  kind_says most node last w below says false true p q =
      branch_says most node last w (eqb-true (kind_at links node) 2 q) below says (eqb (right_at links node + 1) node) refl
  kind_says most node last w below says false false p q = tt

  -- soundness at any node: what the check finds there is a tree that stands in the lists
  pub found : (most node last : ℕ) → Room order links boxes node last → Says most node last (finding box_at order links boxes most node last)
  unfolding finding
  found zero node last w = tt
  found (suc most) node last w =
      kind_says most node last w (finding box_at order links boxes most) (found most) (eqb (kind_at links node) 1) (eqb (kind_at links node) 2) refl refl
