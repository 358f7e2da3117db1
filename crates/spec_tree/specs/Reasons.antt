-- Why a tree is refused: five checks in turn, and of each the first place at which it fails. A tree that none of them refuses is accepted,
-- and no other is (proofs/Unchanged).
use Rattle.std.specs.Prelude.{Bool, true, false, not, cond, ◌&&◌, List, [], ◌∷◌, ℕ, zero, suc, min, ◌-◌, ◌*◌, leb, ltb, eqb, length, get_or, take, Float}
use Rattle.spec_lists.specs.Limits.{deepest}
use Rattle.spec_lists.specs.Refusals.{Verdict, refused, refused_if, first_refusal}
use Rattle.spec_shapes.specs.Boxes.{Box, union}
use Rattle.spec_tree.specs.Trees.{joined, kind_at, left_at, right_at, node_box}
use Rattle.spec_tree.specs.Order.{occurs}
use Rattle.spec_tree.specs.Accepted.{same_box, present}
use Rattle.spec_tree.specs.Hangs.{leaf_slice}

-- ---- the first place
-- the first number from this one on at which the test fails; it is asked at so many, and where it holds of all, the next one is
unfoldable pub failing_from : (ℕ → Bool) → (k more : ℕ) → ℕ
failing_from test k zero = k
failing_from test k (suc more) = cond (test k) (failing_from test (suc k) more) k

-- the first number below `count` at which the test fails, `count` where it holds of all
abbrev pub first_failing : (ℕ → Bool) → (count : ℕ) → ℕ
first_failing test count = failing_from test 0 count

-- the refusal there
unfoldable pub refused_where : (number : ℕ) → (ℕ → Bool) → (count : ℕ) → Verdict
refused_where number test count = refused_if (ltb (first_failing test count) count) number (first_failing test count)

-- ---- 71: the order list is no permutation
-- the entry is a triangle's number, and none before it is the same
unfoldable pub is_new : ℕ → List ℕ → ℕ → Bool
is_new n order i = ltb (get_or order i 0) n && not (occurs (get_or order i 0) (take i order))

-- at the first entry that is out of range or repeated; else, where the list has not n entries, at the smaller of its length and n
unfoldable pub order_refusal : ℕ → List ℕ → Verdict
order_refusal n order =
    first_refusal (refused_where 71 (is_new n order) (length order) ∷ refused_if (not (eqb (length order) n)) 71 (min (length order) n) ∷ [])

-- ---- 72: there are not 1 to 2n - 1 nodes, or the lists do not hold them all
unfoldable pub count_refusal : ℕ → List ℕ → List Float → ℕ → Verdict
count_refusal n links boxes nodes = refused_if (not (present links boxes nodes && ltb nodes (2 * n))) 72 0

-- ---- 73: the nodes are no left-right-self listing of one tree, or the leaves' ranges do not cover 0 to n
-- Node by node: it broke at a node, or these trees stand, their roots with the last one first, and their leaves cover the entries before this one.
pub data Scan : Type 0 where
  broken : ℕ → Scan
  stand : (roots : List ℕ) (entry : ℕ) → Scan

module _ (n : ℕ) (links : List ℕ) where
  -- a leaf begins at the entry that is reached, is not empty and does not end beyond n
  abbrev pub leaf_goes_on : (node entry : ℕ) → Bool
  leaf_goes_on node entry = eqb (left_at links node) entry && ltb entry (right_at links node) && leb (right_at links node) n

  unfoldable pub scan_leaf : ℕ → List ℕ → ℕ → Scan
  scan_leaf node roots entry = cond (leaf_goes_on node entry) (stand (node ∷ roots) (right_at links node)) (broken node)

  -- a branch has the last two trees for its right and its left one
  abbrev pub scan_branch : ℕ → List ℕ → ℕ → Scan
  scan_branch node [] entry = broken node
  scan_branch node (r ∷ []) entry = broken node
  scan_branch node (r ∷ l ∷ roots) entry = cond (eqb (left_at links node) l && eqb (right_at links node) r) (stand (node ∷ roots) entry) (broken node)

  abbrev pub scan_kind : Bool → Bool → ℕ → List ℕ → ℕ → Scan
  scan_kind true is_branch node roots entry = scan_leaf node roots entry
  scan_kind false true node roots entry = scan_branch node roots entry
  scan_kind false false node roots entry = broken node

  -- one node more; what broke stays broken
  abbrev pub scan_node : ℕ → Scan → Scan
  scan_node node (broken k) = broken k
  scan_node node (stand roots entry) = scan_kind (eqb (kind_at links node) 1) (eqb (kind_at links node) 2) node roots entry

  -- so many nodes from the first on
  unfoldable pub scan : ℕ → Scan
  scan zero = stand [] 0
  scan (suc node) = scan_node node (scan node)

-- at the end one tree stands, and its leaves end at n
abbrev pub scan_ends : (n root : ℕ) → Scan → Verdict
scan_ends n root (broken k) = refused 73 k
scan_ends n root (stand [] entry) = refused 73 root
scan_ends n root (stand (r ∷ []) entry) = refused_if (not (eqb entry n)) 73 root
scan_ends n root (stand (r ∷ l ∷ roots) entry) = refused 73 root

-- at the first node where it breaks, or at the root
unfoldable pub listing_refusal : ℕ → List ℕ → ℕ → Verdict
listing_refusal n links nodes = scan_ends n (nodes - 1) (scan n links nodes)

-- ---- 74: a node is deeper than allowed
-- which child of this root node k is under: the left subtree is listed first and ends with the left child
abbrev pub child_over : List ℕ → (root k : ℕ) → ℕ
child_over links root k = cond (leb k (left_at links root)) (left_at links root) (right_at links root)

-- the level of node k under this root, 1 for the root itself; `steps` bounds the way down, so that it ends on any links
unfoldable pub level_under : List ℕ → (steps root k : ℕ) → ℕ
level_under links zero root k = 1
level_under links (suc steps) root k = cond (eqb k root) 1 (suc (level_under links steps (child_over links root k) k))

-- its level under the last node, the root of all
unfoldable pub is_shallow : List ℕ → (nodes k : ℕ) → Bool
is_shallow links nodes k = leb (level_under links nodes (nodes - 1) k) deepest

unfoldable pub depth_refusal : List ℕ → ℕ → Verdict
depth_refusal links nodes = refused_where 74 (is_shallow links nodes) nodes

-- ---- 75: a box differs
module _ (box_at : ℕ → Box) (order links : List ℕ) (boxes : List Float) where
  -- the box that a leaf's triangles give it, or a branch's children by the boxes that are stored for them
  abbrev pub box_given : Bool → ℕ → Box
  box_given true node = joined box_at (leaf_slice order links node)
  box_given false node = union (node_box boxes (left_at links node)) (node_box boxes (right_at links node))

  unfoldable pub is_boxed : ℕ → Bool
  is_boxed node = same_box (box_given (eqb (kind_at links node) 1) node) (node_box boxes node)

  unfoldable pub box_refusal : ℕ → Verdict
  box_refusal nodes = refused_where 75 is_boxed nodes

-- ---- the first of the five that refuses
unfoldable pub reason : (ℕ → Box) → ℕ → (order links : List ℕ) (boxes : List Float) (nodes : ℕ) → Verdict
reason box_at n order links boxes nodes =
    first_refusal (
    order_refusal n order
    ∷ count_refusal n links boxes nodes
    ∷ listing_refusal n links nodes
    ∷ depth_refusal links nodes
    ∷ box_refusal box_at order links boxes nodes
    ∷ []
    )
