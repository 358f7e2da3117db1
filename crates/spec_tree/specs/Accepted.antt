-- The tree check: what it is for lists to be the listing of a tree over n triangles, and the test of it, by recursion from the root.
-- Walks read accepted lists without further tests, so every bound that they rely on is decided here. Code asks for the reasons of a no
-- (Reasons), which are told of no other lists than those that this refuses (proofs/Unchanged).
use Rattle.std.specs.Prelude.{◌≡◌, Bool, true, false, cond, ◌&&◌, List, ℕ, zero, suc, ◌+◌, ◌-◌, ◌*◌, ◌≤◌, leb, ltb, eqb, length, take, Float}
use Rattle.spec_tables.specs.Tables.{slice}
use Rattle.spec_numbers.specs.Same.{same}
use Rattle.spec_lists.specs.Limits.{deepest}
use Rattle.spec_shapes.specs.Points.{Point}
use Rattle.spec_shapes.specs.Boxes.{Box, union}
use Rattle.spec_tree.specs.Trees.{Tree, numbers, node_count, levels, Filled, joined, links_from, boxes_of, kind_at, left_at, right_at, node_box}
use Rattle.spec_tree.specs.Order.{Permutes, permutes}

-- The lists are the listing of the tree: the first 3 × nodes links and the first 6 × nodes box numbers are there and are the tree's.
-- What stands behind them is free: a host may lend longer lists.
pub record Listing (box_at : ℕ → Box) (n : ℕ) (order links : List ℕ) (boxes : List Float) (nodes : ℕ) (t : Tree) : Type 0 where
  pub order_is : order ≡ numbers t
  pub permuted : Permutes n order
  pub filled : Filled t
  pub nodes_are : nodes ≡ node_count t
  pub links_are : take (3 * nodes) links ≡ links_from 0 0 t
  pub boxes_are : take (6 * nodes) boxes ≡ boxes_of box_at t
  pub shallow : levels t ≤ deepest

-- ---- the check
abbrev pub same_point : Point → Point → Bool
same_point a b = same a.x b.x && same a.y b.y && same a.z b.z

-- bit for bit: an accepted box is the very one that the triangles give
unfoldable pub same_box : Box → Box → Bool
same_box a b = same_point a.min b.min && same_point a.max b.max

-- What a subtree is found to be: wrong, or a listing, with its first node, the order entry at which its triangles begin, and its box.
pub data Finding : Type 0 where
  wrong : Finding
  spans : ℕ → ℕ → Box → Finding

-- the node has the box that its triangles or children give it
unfoldable pub boxed : List Float → ℕ → ℕ → ℕ → Box → Finding
boxed boxes node first entry box = cond (same_box box (node_box boxes node)) (spans first entry box) wrong

-- a branch whose right subtree is right, once its left subtree was looked at
abbrev pub left_found : List Float → ℕ → Box → Finding → Finding
left_found boxes node rightBox wrong = wrong
left_found boxes node rightBox (spans first entry leftBox) = boxed boxes node first entry (union leftBox rightBox)

module _ (box_at : ℕ → Box) (order links : List ℕ) (boxes : List Float) where
  -- a leaf: its triangles stand from its left link on and end before its right link, which must be `last`
  unfoldable pub leaf_finding : ℕ → ℕ → Finding
  leaf_finding node last =
      let entry = left_at links node in
      cond (ltb entry last && eqb (right_at links node) last) (boxed boxes node node entry (joined box_at (slice order entry (last - entry)))) wrong

  -- a branch: its right subtree ends just before it, its left subtree just before the right one
  abbrev pub left_tried : Bool → (ℕ → ℕ → Finding) → ℕ → ℕ → Box → Finding
  left_tried true below node entry rightBox = left_found boxes node rightBox (below (left_at links node) entry)
  left_tried false below node entry rightBox = wrong

  abbrev pub right_found : (ℕ → ℕ → Finding) → ℕ → Finding → Finding
  right_found below node wrong = wrong
  right_found below node (spans first entry rightBox) = left_tried (eqb (left_at links node + 1) first) below node entry rightBox

  abbrev pub right_tried : Bool → (ℕ → ℕ → Finding) → ℕ → ℕ → Finding
  right_tried true below node last = right_found below node (below (right_at links node) last)
  right_tried false below node last = wrong

  abbrev pub by_kind : Bool → Bool → (ℕ → ℕ → Finding) → ℕ → ℕ → Finding
  by_kind true is_branch below node last = leaf_finding node last
  by_kind false true below node last = right_tried (eqb (right_at links node + 1) node) below node last
  by_kind false false below node last = wrong

  -- The subtree whose root is this node and whose triangles end before `last`.
  -- The first argument is the number of levels that remain: a deeper tree is wrong, and the recursion ends on any links.
  unfoldable pub finding : ℕ → ℕ → ℕ → Finding
  finding zero node last = wrong
  finding (suc left) node last = by_kind (eqb (kind_at links node) 1) (eqb (kind_at links node) 2) (finding left) node last

-- the whole listing begins with node 0 and entry 0
abbrev pub is_whole : Finding → Bool
is_whole wrong = false
is_whole (spans first entry box) = eqb first 0 && eqb entry 0

-- there is a node, and the links and boxes of every node are there
unfoldable pub present : List ℕ → List Float → ℕ → Bool
present links boxes nodes = ltb 0 nodes && leb (3 * nodes) (length links) && leb (6 * nodes) (length boxes)

-- the whole check; the root is the last node, and its listing must span all nodes and all triangles
unfoldable pub accepted : (ℕ → Box) → ℕ → List ℕ → List ℕ → List Float → ℕ → Bool
accepted box_at n order links boxes nodes =
    permutes n order && present links boxes nodes && is_whole (finding box_at order links boxes deepest (nodes - 1) n)
