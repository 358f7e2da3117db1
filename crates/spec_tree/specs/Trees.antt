-- Trees over triangle numbers, their boxes, and the listing of their nodes in post-order: left subtree, right subtree, node.
use Rattle.std.specs.Prelude.{List, [], ◌∷◌, ◌++◌, ℕ, ◌+◌, ◌*◌, ◌<◌, max, length, get_or, Float}
use Rattle.std.specs.Float.{nan}
use Rattle.spec_shapes.specs.Points.{Point}
use Rattle.spec_shapes.specs.Boxes.{Box, union}

-- a binary tree; a leaf has the numbers of its triangles
pub data Tree : Type 0 where
  leaf : List ℕ → Tree
  branch : Tree → Tree → Tree

-- the triangle numbers of the leaves, left to right
unfoldable pub numbers : Tree → List ℕ
numbers (leaf slice) = slice
numbers (branch l r) = numbers l ++ numbers r

unfoldable pub node_count : Tree → ℕ
node_count (leaf slice) = 1
node_count (branch l r) = node_count l + node_count r + 1

-- the levels from the root down; a lone leaf has one
unfoldable pub levels : Tree → ℕ
levels (leaf slice) = 1
levels (branch l r) = max (levels l) (levels r) + 1

-- no leaf is empty
abbrev pub Filled : Tree → Type 0
Filled (leaf slice) = 0 < length slice
Filled (branch l r) = Filled l × Filled r

-- ---- boxes, over the box of each triangle
-- b joined with the boxes of the triangles, from the left
unfoldable pub joined_to : (ℕ → Box) → Box → List ℕ → Box
joined_to box_at b [] = b
joined_to box_at b (k ∷ ks) = joined_to box_at (union b (box_at k)) ks

-- the first triangle's box joined with those of the rest; no leaf is empty, so the first clause is never needed
unfoldable pub joined : (ℕ → Box) → List ℕ → Box
joined box_at [] = box_at 0
joined box_at (k ∷ ks) = joined_to box_at (box_at k) ks

unfoldable pub box_over : (ℕ → Box) → Tree → Box
box_over box_at (leaf slice) = joined box_at slice
box_over box_at (branch l r) = union (box_over box_at l) (box_over box_at r)

-- ---- the listing: the left subtree, the right subtree, then the node itself
-- where the root stands in a listing that begins with this node
unfoldable pub root_from : ℕ → Tree → ℕ
root_from node (leaf slice) = node
root_from node (branch l r) = node + node_count l + node_count r

-- Three numbers a node: 1, the order entry at which its triangles begin, and the one before which they end; or 2, and its two children.
-- The listing begins with this node, and its triangles in the order list with this entry.
unfoldable pub links_from : ℕ → ℕ → Tree → List ℕ
links_from node entry (leaf slice) = 1 ∷ entry ∷ (entry + length slice) ∷ []
links_from node entry (branch l r) =
    links_from node entry l
    ++ links_from (node + node_count l) (entry + length (numbers l)) r
    ++ (2 ∷ root_from node l ∷ root_from (node + node_count l) r ∷ [])

-- six numbers a box: the smallest x, y and z, then the largest
abbrev pub six_of : Box → List Float
six_of b = b.min.x ∷ b.min.y ∷ b.min.z ∷ b.max.x ∷ b.max.y ∷ b.max.z ∷ []

unfoldable pub boxes_of : (ℕ → Box) → Tree → List Float
boxes_of box_at (leaf slice) = six_of (joined box_at slice)
boxes_of box_at (branch l r) = boxes_of box_at l ++ boxes_of box_at r ++ six_of (box_over box_at (branch l r))

-- ---- a node, read out of the lists
abbrev pub kind_at : List ℕ → ℕ → ℕ
kind_at links node = get_or links (3 * node) 0

abbrev pub left_at : List ℕ → ℕ → ℕ
left_at links node = get_or links (3 * node + 1) 0

abbrev pub right_at : List ℕ → ℕ → ℕ
right_at links node = get_or links (3 * node + 2) 0

abbrev pub point_from : List Float → ℕ → Point
point_from l at = record { x = get_or l at nan; y = get_or l (at + 1) nan; z = get_or l (at + 2) nan }

abbrev pub node_box : List Float → ℕ → Box
node_box boxes node = record { min = point_from boxes (6 * node); max = point_from boxes (6 * node + 3) }
