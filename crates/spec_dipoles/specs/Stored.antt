-- How `node_sums` works: the sums of the nodes wait in the lent list, in the places of their dipoles, until all are there.
-- And what this and the walk need of the lists, so that they stay within them.
use Rattle.std.specs.Prelude.{List, ◌⊎◌, ℕ, ◌*◌, ◌≤◌, ◌<◌, eqb, length, Float}
use Rattle.std.specs.Float.{Format}
use Rattle.spec_tables.specs.Tables.{concat_map}
use Rattle.spec_lists.specs.Reading.{triangle_at, triangle_count}
use Rattle.spec_tree.specs.Trees.{kind_at, node_box}
use Rattle.spec_tree.specs.Order.{EntriesBelow}
use Rattle.spec_tree.specs.Hangs.{LeafRange, ChildrenBefore}
use Rattle.spec_dipoles.specs.Sums.{Sums, sums_by, node_sums, Dipole, dipole_of}
use Rattle.spec_dipoles.specs.Calls.{sixteen_of, dipole_at}

-- sums in the places of a dipole
abbrev pub stored : Sums → Dipole
stored s = record { first = s.normal; second = s.moments; radius = s.area; centre = s.centre }

-- and back
abbrev pub restored : Dipole → Sums
restored d = record { normal = d.first; moments = d.second; area = d.radius; centre = d.centre }

-- the sums of a node by those of its children, as they stand in the list
unfoldable pub sums_from : Format → (triangles : List Float) (order links : List ℕ) (sums : List Float) → ℕ → Sums
sums_from f triangles order links sums node =
    sums_by f (triangle_at triangles) order links (eqb (kind_at links node) 1) (λ child. restored (dipole_at sums child)) node

-- all sums, in the order of the nodes
unfoldable pub stored_sums : Format → (triangles : List Float) (order links : List ℕ) (nodes : ℕ) → List Float
stored_sums f triangles order links nodes = concat_map (λ node. sixteen_of (stored (node_sums f (triangle_at triangles) order links node))) nodes

-- all dipoles, made of the sums that stand in the list
unfoldable pub made_dipoles : Format → (boxes sums : List Float) (nodes : ℕ) → List Float
made_dipoles f boxes sums nodes = concat_map (λ node. sixteen_of (dipole_of f (node_box boxes node) (restored (dipole_at sums node)))) nodes

-- ---- what is needed
-- Every node is there, and is a leaf with a range in the order list or a branch whose children stand before it; the entries are triangle numbers.
pub record Readable (triangles : List Float) (order links : List ℕ) (nodes : ℕ) : Type 0 where
  pub links_there : 3 * nodes ≤ length links
  pub node_is : (node : ℕ) → node < nodes → LeafRange order links node ⊎ ChildrenBefore links node
  pub entries : EntriesBelow (triangle_count triangles) order

-- The node is one of these, and each of them has its sixteen numbers: what can be read at a node, and at any node below it.
pub record NodeIn (triangles : List Float) (order links : List ℕ) (sums : List Float) (node : ℕ) : Type 0 where
  pub nodes : ℕ
  pub readable : Readable triangles order links nodes
  pub here : node < nodes
  pub room : 16 * nodes ≤ length sums

-- what the walk needs from the root, the last node, down
pub record RootIn (triangles : List Float) (order links : List ℕ) (sums : List Float) (nodes : ℕ) : Type 0 where
  pub some : 0 < nodes
  pub readable : Readable triangles order links nodes
  pub room : 16 * nodes ≤ length sums
