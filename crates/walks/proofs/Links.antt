-- What stands at a node, as the laws of the walks have it: by its three links.
use Rattle.std.proofs.Common.{List, ℕ, sym, refl}
use Rattle.spec_tree.specs.Trees.{kind_at}
use Rattle.spec_search.specs.Safe.{LinksAre}
use Rattle.tree.specs.Values.{LeafAt, BranchAt}

-- a leaf's links
pub leaf_links : {links : List ℕ} {node first last : ℕ} → LeafAt links node first last → LinksAre links node 1 first last
leaf_links at = record { kind_is = sym at.is_leaf; left_is = at.first_is; right_is = at.last_is }

-- a branch's links
pub branch_links : {links : List ℕ} {node left right : ℕ} → BranchAt links node left right → LinksAre links node (kind_at links node) left right
branch_links at = record { kind_is = refl; left_is = at.left_is; right_is = at.right_is }
