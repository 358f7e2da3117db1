-- The sums of a node are those of the tree that hangs there, joined along it: the recursion of the source.
use mathlib.Core.Path.{◌≡◌, ap, ap₂}
use mathlib.Core.List.{List}
use Prim.Native.Nat.{ℕ, zero, suc, ◌-◌, ◌<◌}
use native.Mathlib.Omega.{arith}
use lib.Ieee.{Float, Format}
use Rattle.spec_shapes.specs.Boxes.{Box}
use Rattle.spec_shapes.specs.Triangles.{Triangle}
use Rattle.spec_tree.specs.Trees.{Tree, leaf, branch, left_at, right_at}
use Rattle.spec_tree.specs.Accepted.{Listing}
use Rattle.spec_tree.specs.Hangs.{Hangs}
use Rattle.spec_tree.proofs.Hangs.{listing_hangs}
use Rattle.spec_dipoles.specs.Sums.{leaf_sums, joined_sums, sums_at, node_sums, tree_sums}

module _ (f : Format) (triangle : ℕ → Triangle) (over : ℕ → Box) (order links : List ℕ) (boxes : List Float) where
  levels_along_tree : (t : Tree) (levels node : ℕ) → node < levels → Hangs over order links boxes t node
      → sums_at f triangle order links levels node ≡ tree_sums f triangle t
  unfolding sums_at tree_sums
  levels_along_tree (leaf slice) zero node l h = absurd (omega arith)
  levels_along_tree (leaf slice) (suc levels) node l h = rw h.kind_is (ap (leaf_sums f triangle) h.slice_is)
  levels_along_tree (branch l r) zero node w h = absurd (omega arith)
  levels_along_tree (branch l r) (suc levels) node w h =
      rw h.kind_is (ap₂ (joined_sums f) (levels_along_tree l levels (left_at links node) (omega (arith, h.left_before)) h.left)
      (levels_along_tree r levels (right_at links node) (omega (arith, h.right_before)) h.right))

  -- where a tree hangs at a node, the node has the tree's sums
  pub sums_along_tree : (t : Tree) (node : ℕ) → Hangs over order links boxes t node → node_sums f triangle order links node ≡ tree_sums f triangle t
  unfolding node_sums
  sums_along_tree t node h = levels_along_tree t (suc node) node (omega arith) h

  -- the root of a listed tree, the last node, has the sums of the whole tree
  pub root_sums : (n nodes : ℕ) (t : Tree) → Listing over n order links boxes nodes t → node_sums f triangle order links (nodes - 1) ≡ tree_sums f triangle t
  root_sums n nodes t s = sums_along_tree t (nodes - 1) (listing_hangs over n order links boxes nodes t s)
