-- What a walk meets at a node of the lists: the tree that hangs there, and what holds of every node.
-- A walk descends by these records alone; it never sees the listing as a whole.
use Rattle.std.specs.Prelude.{◌≡◌, List, ◌⊎◌, ℕ, ◌+◌, ◌-◌, ◌*◌, ◌≤◌, ◌<◌, length, Float}
use Rattle.spec_tables.specs.Tables as Tables
use Rattle.spec_shapes.specs.Boxes.{Box}
use Rattle.spec_tree.specs.Trees.{Tree, leaf, branch, joined, box_over, kind_at, left_at, right_at, node_box}
use Rattle.spec_tree.specs.Order.{EntriesBelow}

-- the slice of the order list that a leaf's range names
abbrev pub leaf_slice : List ℕ → List ℕ → ℕ → List ℕ
leaf_slice order links node = Tables.slice order (left_at links node) (right_at links node - left_at links node)

-- the node's three links and six box numbers are there
pub record There (links : List ℕ) (boxes : List Float) (node : ℕ) : Type 0 where
  pub links_there : 3 * node + 3 ≤ length links
  pub boxes_there : 6 * node + 6 ≤ length boxes

-- the node is a leaf of these triangles, under this box
pub record LeafAt (order links : List ℕ) (boxes : List Float) (slice : List ℕ) (box : Box) (node : ℕ) : Type 0 where
  pub there : There links boxes node
  pub kind_is : kind_at links node ≡ 1
  pub nonempty : left_at links node < right_at links node
  pub within : right_at links node ≤ length order
  pub slice_is : leaf_slice order links node ≡ slice
  pub box_is : node_box boxes node ≡ box

-- the node is a branch, its children stand before it, so that a walk ends, and this hangs at them
pub record BranchAt (links : List ℕ) (boxes : List Float) (box : Box) (Left Right : ℕ → Type 0) (node : ℕ) : Type 0 where
  pub there : There links boxes node
  pub kind_is : kind_at links node ≡ 2
  pub left_before : left_at links node < node
  pub right_before : right_at links node < node
  pub box_is : node_box boxes node ≡ box
  pub left : Left (left_at links node)
  pub right : Right (right_at links node)

-- the tree hangs at the node: the lists, read from the node down, give this tree and its boxes
abbrev pub Hangs : (ℕ → Box) → List ℕ → List ℕ → List Float → Tree → ℕ → Type 0
Hangs box_at order links boxes (leaf slice) = LeafAt order links boxes slice (joined box_at slice)
Hangs box_at order links boxes (branch l r) =
    BranchAt links boxes (box_over box_at (branch l r)) (Hangs box_at order links boxes l) (Hangs box_at order links boxes r)

-- ---- of every node alike
-- a leaf's range is not empty and lies within the order list
pub record LeafRange (order links : List ℕ) (node : ℕ) : Type 0 where
  pub is_leaf : kind_at links node ≡ 1
  pub nonempty : left_at links node < right_at links node
  pub within : right_at links node ≤ length order

-- a branch's children stand before it, so that a walk ends
pub record ChildrenBefore (links : List ℕ) (node : ℕ) : Type 0 where
  pub is_branch : kind_at links node ≡ 2
  pub left_before : left_at links node < node
  pub right_before : right_at links node < node

-- Every node is there, and is a leaf with a range in the order list or a branch whose children stand before it.
-- Every entry of the order list is below n, so that it is a triangle's number.
pub record Sound (n : ℕ) (order links : List ℕ) (boxes : List Float) (nodes : ℕ) : Type 0 where
  pub links_there : 3 * nodes ≤ length links
  pub boxes_there : 6 * nodes ≤ length boxes
  pub node_is : (node : ℕ) → node < nodes → LeafRange order links node ⊎ ChildrenBefore links node
  pub entries : EntriesBelow n order
