-- The leaves of a tree, left to right, how they are read off the lists, and what the public calls answer about them.
use Rattle.std.specs.Prelude.{Bool, true, false, List, [], ◌∷◌, ◌++◌, map, ℕ, zero, suc, ◌+◌, ◌-◌, ◌*◌, ◌≤◌, ltb, eqb, length, get_or, Float}
use Rattle.spec_tables.specs.Tables as Tables
use Rattle.spec_shapes.specs.Boxes.{Box}
use Rattle.spec_lists.specs.Refusals.{Verdict, passes, refused}
use Rattle.spec_tree.specs.Trees.{Tree, leaf, branch, numbers, node_count, joined, kind_at, left_at, right_at, node_box}
use Rattle.spec_tree.specs.Order.{occurs}
use Rattle.spec_tree.specs.Refusals.{check_refusal}

-- ---- of a tree
-- each leaf's triangle numbers, left to right
unfoldable pub leaves : Tree → List (List ℕ)
leaves (leaf slice) = slice ∷ []
leaves (branch l r) = leaves l ++ leaves r

-- a leaf as the lists have it: its node, where its triangles begin in the order list and where they end, the end not included, and its box
pub record Leaf : Type 0 where
  pub node : ℕ
  pub first : ℕ
  pub last : ℕ
  pub box : Box

-- the leaves of a tree whose listing begins with this node, and its triangles in the order list with this entry
unfoldable pub leaves_from : (ℕ → Box) → ℕ → ℕ → Tree → List Leaf
leaves_from box_at node entry (leaf slice) = record { node = node; first = entry; last = entry + length slice; box = joined box_at slice } ∷ []
leaves_from box_at node entry (branch l r) = leaves_from box_at node entry l ++ leaves_from box_at (node + node_count l) (entry + length (numbers l)) r

-- the slice of the order list that a leaf has
abbrev pub slice_of : List ℕ → Leaf → List ℕ
slice_of order l = Tables.slice order l.first (l.last - l.first)

abbrev pub one_if : Bool → ℕ
one_if true = 1
one_if false = 0

-- how many of the slices hold a number: of a tree each triangle is in exactly one
unfoldable pub slices_with : ℕ → List (List ℕ) → ℕ
slices_with k [] = 0
slices_with k (slice ∷ slices) = one_if (occurs k slice) + slices_with k slices

-- ---- read off the lists
abbrev pub with_leaf : Bool → ℕ → List ℕ → List ℕ
with_leaf true node rest = node ∷ rest
with_leaf false node rest = rest

-- which of the `count` nodes from this one on are leaves: a left subtree is listed before the right one, so they rise from left to right
unfoldable pub leaf_nodes : List ℕ → ℕ → ℕ → List ℕ
leaf_nodes links node zero = []
leaf_nodes links node (suc count) = with_leaf (eqb (kind_at links node) 1) node (leaf_nodes links (suc node) count)

-- the leaf that is read at a node
abbrev pub leaf_at : List ℕ → List Float → ℕ → Leaf
leaf_at links boxes node = record { node = node; first = left_at links node; last = right_at links node; box = node_box boxes node }

-- how many leaves are read
unfoldable pub leaf_count : List ℕ → ℕ → ℕ
leaf_count links nodes = length (leaf_nodes links 0 nodes)

-- the k-th leaf, or nothing where there are k or fewer, or the refusal
pub data LeafFound : Type 0 where
  nothing : LeafFound
  found : Leaf → LeafFound
  not_sought : (number place : ℕ) → LeafFound

-- the k-th of a list of leaves, counted from 0
unfoldable pub kth : List Leaf → ℕ → LeafFound
kth [] k = nothing
kth (l ∷ ls) zero = found l
kth (l ∷ ls) (suc k) = kth ls k

-- the k-th of the leaves from this node on
unfoldable pub leaf_from : List ℕ → List Float → (nodes from k : ℕ) → LeafFound
leaf_from links boxes nodes from k = kth (map (leaf_at links boxes) (leaf_nodes links from (nodes - from))) k

-- what reading the leaves needs: the links and boxes of every node are there
pub record NodesThere (links : List ℕ) (boxes : List Float) (nodes : ℕ) : Type 0 where
  pub links_there : 3 * nodes ≤ length links
  pub boxes_there : 6 * nodes ≤ length boxes

-- ---- the calls over any lists at all: 1 to 4 and 71 to 75 refuse
abbrev pub sought_if : Verdict → LeafFound → LeafFound
sought_if passes l = l
sought_if (refused number place) l = not_sought number place

unfoldable pub leaf_answer : (triangles : List Float) (order links : List ℕ) (boxes : List Float) (nodes k : ℕ) → LeafFound
leaf_answer triangles order links boxes nodes k = sought_if (check_refusal triangles order links boxes nodes) (leaf_from links boxes nodes 0 k)

-- the i-th triangle of a leaf, or none where it has i or fewer, or the refusal
pub data EntryFound : Type 0 where
  no_entry : EntryFound
  triangle : ℕ → EntryFound
  entry_refused : (number place : ℕ) → EntryFound

abbrev pub entry_if : Bool → ℕ → EntryFound
entry_if true t = triangle t
entry_if false t = no_entry

-- what stands at a place of a leaf's slice
unfoldable pub entry_at : List ℕ → ℕ → EntryFound
entry_at slice i = entry_if (ltb i (length slice)) (get_or slice i 0)

abbrev pub entry_in : List ℕ → LeafFound → ℕ → EntryFound
entry_in order nothing i = no_entry
entry_in order (found l) i = entry_at (slice_of order l) i
entry_in order (not_sought number place) i = entry_refused number place

unfoldable pub entry_answer : (triangles : List Float) (order links : List ℕ) (boxes : List Float) (nodes k i : ℕ) → EntryFound
entry_answer triangles order links boxes nodes k i = entry_in order (leaf_answer triangles order links boxes nodes k) i

-- the number of leaves, or the refusal
pub data LeavesCounted : Type 0 where
  counted : ℕ → LeavesCounted
  not_counted : (number place : ℕ) → LeavesCounted

abbrev pub counted_if : Verdict → ℕ → LeavesCounted
counted_if passes n = counted n
counted_if (refused number place) n = not_counted number place

unfoldable pub count_answer : (triangles : List Float) (order links : List ℕ) (boxes : List Float) (nodes : ℕ) → LeavesCounted
count_answer triangles order links boxes nodes = counted_if (check_refusal triangles order links boxes nodes) (leaf_count links nodes)
