-- The depth of a tree, read off its links, what it needs of them, and the public call that answers it.
use Rattle.std.specs.Prelude.{Bool, true, false, List, ◌≡◌, ℕ, zero, suc, ◌+◌, ◌-◌, ◌*◌, ◌≤◌, max, eqb, length, Float}
use Rattle.spec_lists.specs.Limits.{deepest}
use Rattle.spec_lists.specs.Refusals.{Verdict, passes, refused}
use Rattle.spec_tree.specs.Trees.{kind_at, left_at, right_at}
use Rattle.spec_tree.specs.Hangs.{ChildrenBefore}
use Rattle.spec_tree.specs.Refusals.{check_refusal}

-- a leaf is one level, and a branch one more than the deeper of its children
abbrev pub depth_by : Bool → List ℕ → (ℕ → ℕ) → ℕ → ℕ
depth_by true links below node = max (below (left_at links node)) (below (right_at links node)) + 1
depth_by false links below node = 1

-- the levels from this node down; `most` bounds the recursion, so that it ends on any links
unfoldable pub depth_at : List ℕ → ℕ → ℕ → ℕ
depth_at links zero node = 0
depth_at links (suc most) node = depth_by (eqb (kind_at links node) 2) links (depth_at links most) node

-- the depth of the whole tree, whose root is the last node
abbrev pub depth_of : List ℕ → ℕ → ℕ
depth_of links nodes = depth_at links deepest (nodes - 1)

-- What the depth from a node down needs: the node is there, and every branch up to it has its children before it.
pub record Descends (links : List ℕ) (node : ℕ) : Type 0 where
  pub there : 3 * node + 3 ≤ length links
  pub falls : (k : ℕ) → k ≤ node → kind_at links k ≡ 2 → ChildrenBefore links k

-- ---- the call: 1 to 4 and 71 to 75 refuse, else the depth
pub data DepthFound : Type 0 where
  deep : ℕ → DepthFound
  not_deep : (number place : ℕ) → DepthFound

abbrev pub deep_if : Verdict → ℕ → DepthFound
deep_if passes depth = deep depth
deep_if (refused number place) depth = not_deep number place

unfoldable pub depth_answer : (triangles : List Float) (order links : List ℕ) (boxes : List Float) (nodes : ℕ) → DepthFound
depth_answer triangles order links boxes nodes = deep_if (check_refusal triangles order links boxes nodes) (depth_of links nodes)
