-- What the functions of the tree check need of the lists.
use Rattle.std.specs.Prelude.{List, ◌⊎◌, ◌≡◌, ℕ, ◌+◌, ◌*◌, ◌≤◌, ◌<◌, length, Float}
use Rattle.spec_lists.specs.Reading.{triangle_count}
use Rattle.spec_tree.specs.Trees.{kind_at}
use Rattle.spec_tree.specs.Order.{EntriesBelow}
use Rattle.spec_tree.specs.Hangs.{LeafRange, ChildrenBefore}

-- every branch before this node has its children before it, so that a way down from there ends
abbrev pub Before : List ℕ → ℕ → Type 0
Before links node = (k : ℕ) → k < node → kind_at links k ≡ 2 → ChildrenBefore links k

-- the box of a node: the node is there, and so are the triangles of a leaf or the children of a branch
pub record Boxable (triangles : List Float) (order links : List ℕ) (boxes : List Float) (node : ℕ) : Type 0 where
  pub links_there : 3 * node + 3 ≤ length links
  pub boxes_there : 6 * node + 6 ≤ length boxes
  pub node_is : LeafRange order links node ⊎ ChildrenBefore links node
  pub entries : EntriesBelow (triangle_count triangles) order

-- the nodes in turn: there is one, all are there, and the order list has n triangle numbers
pub record Scannable (triangles : List Float) (order links : List ℕ) (boxes : List Float) (n nodes : ℕ) : Type 0 where
  pub some : 0 < nodes
  pub links_there : 3 * nodes ≤ length links
  pub boxes_there : 6 * nodes ≤ length boxes
  pub long : n ≤ length order
  pub entries : EntriesBelow (triangle_count triangles) order
