-- The answers of the tree's functions as the definitions' own. The contracts compare by these.
use Rattle.std.specs.Prelude.{◌≡◌, ◌≢◌, ℕ, List, Result, Ok, Err}
use Rattle.lists.specs.Values.{number_of, place_of}
use Rattle.lists.specs.declared.refusal.Refusal.{Refusal}
use Rattle.spec_tree.specs.Depth as Depth
use Rattle.spec_tree.specs.Trees.{kind_at, left_at, right_at}
use Rattle.tree.specs.declared.nodes.Node.{Node}
use Rattle.tree.specs.declared.nodes.Node.TheVariants.{Leaf, Branch}

abbrev pub as_depth_found : Result ℕ Refusal → Depth.DepthFound
as_depth_found (Ok n) = Depth.deep n
as_depth_found (Err r) = Depth.not_deep (number_of r) (place_of r)

-- a leaf stands at the node, with these two numbers
pub record LeafAt (links : List ℕ) (node first last : ℕ) : Type 0 where
  pub is_leaf : kind_at links node ≡ 1
  pub first_is : first ≡ left_at links node
  pub last_is : last ≡ right_at links node

-- no leaf stands at the node, whose two numbers are these
pub record BranchAt (links : List ℕ) (node left right : ℕ) : Type 0 where
  pub no_leaf : kind_at links node ≢ 1
  pub left_is : left ≡ left_at links node
  pub right_is : right ≡ right_at links node

-- what stands at the node
abbrev pub StandsAt : List ℕ → ℕ → Node → Type 0
StandsAt links node (Leaf first last) = LeafAt links node first last
StandsAt links node (Branch left right) = BranchAt links node left right
