-- Completeness of the tree check: it finds the listing of a tree, subtree by subtree.
use mathlib.Core.Path.{◌≡◌, refl, sym, subst, ◌∙◌}
use mathlib.Core.List.{List, ◌++◌}
use Prim.Native.Nat.{ℕ, zero, suc, ◌+◌, ◌-◌, ◌*◌, ◌≤◌, ◌<◌}
use native.Mathlib.Omega.{arith}
use borrow.Author.Tests.{eq-eqb, lt-ltb}
use lib.Dec.{eqb}
use lib.ListN.{length, length-append}
use lib.Ieee.{Float, nan}
use Rattle.spec_tables.specs.Tables as Tables
use Rattle.spec_shapes.specs.Boxes.{Box, union}
use Rattle.spec_tree.specs.Trees.{Tree, leaf, branch, numbers, node_count, levels, Filled, joined, box_over, root_from, links_from, boxes_of, right_at, node_box}
use Rattle.spec_tree.specs.Accepted.{Finding, spans, boxed, leaf_finding, right_tried, by_kind, finding}
use Rattle.spec_tree.proofs.Standing.{Stands, three_stand, stands_first, stands_second, stands_slice}
use Rattle.spec_tree.proofs.Nodes.{NodeLinks, links_read, box_read, box_same}
use Rattle.spec_tree.proofs.Trees.{boxes_length}
use Rattle.spec_tree.proofs.Links.{BranchLinks, branch_links}

module _ (box_at : ℕ → Box) (order links : List ℕ) (boxes : List Float) where
  boxed_as : (node first entry : ℕ) (box : Box) → node_box boxes node ≡ box → boxed boxes node first entry box ≡ spans first entry box
  unfolding boxed
  boxed_as node first entry box p = rw (box_same box (node_box boxes node) (sym p))

  leaf_listed : (node last entry : ℕ) (slice : List ℕ) → NodeLinks links node 1 entry last → entry < last → Tables.slice order entry (last - entry) ≡ slice
      → node_box boxes node ≡ joined box_at slice
      → leaf_finding box_at order links boxes node last ≡ spans node entry (joined box_at slice)
  unfolding leaf_finding
  leaf_listed node last entry slice l h p b =
      rw (l.left_is, l.right_is, lt-ltb entry last h, eq-eqb last last refl, p) (boxed_as node node entry (joined box_at slice) b)

  branch_listed : (below : ℕ → ℕ → Finding) (node last entry left right first' entry' first : ℕ) (leftBox rightBox : Box) → NodeLinks links node 2 left right
      → right + 1 ≡ node → left + 1 ≡ first' → below right last ≡ spans first' entry' rightBox → below left entry' ≡ spans first entry leftBox
      → node_box boxes node ≡ union leftBox rightBox
      → right_tried box_at order links boxes (eqb (right_at links node + 1) node) below node last ≡ spans first entry (union leftBox rightBox)
  branch_listed below node last entry left right first' entry' first leftBox rightBox l r q rightward leftward b =
      rw (l.right_is, eq-eqb (right + 1) node r)
      (rw (l.right_is, rightward, l.left_is, eq-eqb (left + 1) first' q) (rw (l.left_is, leftward) (boxed_as node first entry (union leftBox rightBox) b)))

  by_kind_lem : (most node last kind left right : ℕ) (f : Finding) → NodeLinks links node kind left right
      → by_kind box_at order links boxes (eqb kind 1) (eqb kind 2) (finding box_at order links boxes most) node last ≡ f
      → finding box_at order links boxes (suc most) node last ≡ f
  unfolding finding
  by_kind_lem most node last kind left right f l p = rw l.kind_is p

  -- the listing of t stands in the lists: nodes from `first` on to its root `node`, order entries from `entry` on up to `last`
  pub record Listed (first entry node last : ℕ) (t : Tree) : Type 0 where
    pub root : root_from first t ≡ node
    pub slice : Stands 0 order entry (numbers t)
    pub ends : entry + length (numbers t) ≡ last
    pub within : last ≤ length order
    pub links_stand : Stands 0 links (3 * first) (links_from first entry t)
    pub boxes_stand : Stands nan boxes (6 * first) (boxes_of box_at t)

  -- what the listing of a branch is made of: those of its two subtrees, and its own node
  pub record Halves (first entry node last : ℕ) (l r : Tree) : Type 0 where
    pub left : Listed first entry (root_from first l) (entry + length (numbers l)) l
    pub right : Listed (first + node_count l) (entry + length (numbers l)) (root_from (first + node_count l) r) last r
    pub right_next : root_from (first + node_count l) r + 1 ≡ node
    pub left_next : root_from first l + 1 ≡ first + node_count l
    pub own : NodeLinks links node 2 (root_from first l) (root_from (first + node_count l) r)
    pub box : node_box boxes node ≡ union (box_over box_at l) (box_over box_at r)

  -- the listing of a branch is taken apart: the step of every recursion on listings
  pub halves : (first entry node last : ℕ) (l r : Tree) → Listed first entry node last (branch l r) → Halves first entry node last l r
  unfolding root_from numbers links_from boxes_of box_over
  halves first entry node last l r s =
      let mid : ℕ = entry + length (numbers l) in
      let b : BranchLinks links first entry l r = branch_links links first entry l r s.links_stand in
      let six = three_stand nan boxes (boxes_of box_at l) (boxes_of box_at r) _ (6 * first) (6 * (first + node_count l)) (6 * node)
      (omega (arith, boxes_length box_at l)) (omega (arith, boxes_length box_at r)) s.boxes_stand in
      let both : length (numbers l ++ numbers r) ≡ length (numbers l) + length (numbers r) = length-append (numbers l) (numbers r) in
      record {
        left = record {
          root = refl;
          slice = stands_first 0 order (numbers l) (numbers r) entry s.slice;
          ends = refl;
          within = omega (arith, s.ends, s.within);
          links_stand = b.left;
          boxes_stand = six.0;
        };
        right = record {
          root = refl;
          slice = stands_second 0 order (numbers l) (numbers r) entry mid refl s.slice;
          ends = omega (arith, s.ends);
          within = s.within;
          links_stand = b.right;
          boxes_stand = six.1;
        };
        right_next = b.right_next ∙ s.root;
        left_next = b.left_next;
        own = subst (λ (k : ℕ). NodeLinks links k 2 (root_from first l) (root_from (first + node_count l) r)) s.root b.own;
        box = box_read boxes node (union (box_over box_at l) (box_over box_at r)) six.2;
      }

  -- completeness at any node: where the listing of a tree stands, the check finds its span and its box
  pub listed_found : (t : Tree) (most first entry node last : ℕ) → Filled t → levels t ≤ most → Listed first entry node last t
      → finding box_at order links boxes most node last ≡ spans first entry (box_over box_at t)
  unfolding levels box_over numbers root_from links_from boxes_of
  listed_found (leaf slice) zero first entry node last f h s = absurd (omega arith)
  listed_found (leaf slice) (suc most) first entry node last f h s =
      let own : NodeLinks links first 1 entry (entry + length slice) = links_read links first 1 entry (entry + length slice) s.links_stand in
      let box : node_box boxes first ≡ joined box_at slice = box_read boxes first (joined box_at slice) s.boxes_stand in
      let end : entry + length slice ≡ last = s.ends in
      let cut : Tables.slice order entry (entry + length slice - entry) ≡ slice =
      stands_slice 0 order slice entry (entry + length slice - entry) (omega arith) s.slice in
      rw (← s.root, ← end)
      (by_kind_lem most first (entry + length slice) 1 entry (entry + length slice) _ own
      (leaf_listed first (entry + length slice) entry slice own (omega arith) cut box))
  listed_found (branch l r) zero first entry node last f h s = absurd (omega arith)
  listed_found (branch l r) (suc most) first entry node last f h s =
      let h' : Halves first entry node last l r = halves first entry node last l r s in
      let rightward = listed_found r most (first + node_count l) (entry + length (numbers l)) (root_from (first + node_count l) r) last f.1
      (omega arith) h'.right in
      let leftward = listed_found l most first entry (root_from first l) (entry + length (numbers l)) f.0 (omega arith) h'.left in
      by_kind_lem most node last 2 (root_from first l) (root_from (first + node_count l) r) _ h'.own
      (branch_listed (finding box_at order links boxes most) node last entry (root_from first l) (root_from (first + node_count l) r) (first + node_count l)
      (entry + length (numbers l)) first
      (box_over box_at l) (box_over box_at r) h'.own h'.right_next h'.left_next rightward leftward h'.box)
