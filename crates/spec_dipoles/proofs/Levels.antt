-- A node's sums are its leaf's, or its children's joined: children stand before their parent, so that there are levels enough.
use mathlib.Core.Path.{◌≡◌, refl, sym, ap₂, ◌∙◌}
use mathlib.Core.Logic.{◌⊎◌, inl, inr}
use mathlib.Core.List.{List}
use Prim.Native.Nat.{ℕ, zero, suc, ◌<◌}
use native.Mathlib.Omega.{arith}
use lib.Dec.{eqb}
use lib.Ieee.{Format}
use Rattle.spec_shapes.specs.Triangles.{Triangle}
use Rattle.spec_tree.specs.Trees.{kind_at, left_at, right_at}
use Rattle.spec_tree.specs.Hangs.{LeafRange, ChildrenBefore}
use Rattle.spec_dipoles.specs.Sums.{Sums, joined_sums, sums_by, sums_at, node_sums}

module _ (f : Format) (triangle : ℕ → Triangle) (order links : List ℕ) where
  abbrev Node : ℕ → Type 0
  Node node = LeafRange order links node ⊎ ChildrenBefore links node

  abbrev by : (ℕ → Sums) → ℕ → Sums
  by below node = sums_by f triangle order links (eqb (kind_at links node) 1) below node

  -- a leaf's sums take none from below, a branch's those of two nodes that stand before it
  by_same : (node : ℕ) (p q : ℕ → Sums) → Node node → ((k : ℕ) → k < node → p k ≡ q k) → by p node ≡ by q node
  by_same node p q (inl l) h = rw l.is_leaf
  by_same node p q (inr b) h = rw b.is_branch (ap₂ (joined_sums f) (h (left_at links node) b.left_before) (h (right_at links node) b.right_before))

  -- more levels than the node's number make no difference
  levels_enough : (nodes : ℕ) → ((k : ℕ) → k < nodes → Node k) → (a b node : ℕ) → node < a → node < b → node < nodes
      → sums_at f triangle order links a node ≡ sums_at f triangle order links b node
  unfolding sums_at
  levels_enough nodes is zero b node p q l = absurd (omega arith)
  levels_enough nodes is (suc a) zero node p q l = absurd (omega arith)
  levels_enough nodes is (suc a) (suc b) node p q l =
      by_same node (sums_at f triangle order links a) (sums_at f triangle order links b) (is node l)
      (λ k h. levels_enough nodes is a b k (omega arith) (omega arith) (omega arith))

  -- whoever has the sums of all nodes before it has the sums of the node
  pub sums_by_earlier : (nodes : ℕ) → ((k : ℕ) → k < nodes → Node k) → (node : ℕ) (below : ℕ → Sums) → node < nodes
      → ((k : ℕ) → k < node → below k ≡ node_sums f triangle order links k)
      → by below node ≡ node_sums f triangle order links node
  unfolding sums_at node_sums
  sums_by_earlier nodes is node below l h =
      by_same node below (sums_at f triangle order links node) (is node l)
      (λ k b. h k b ∙ levels_enough nodes is (suc k) node k (omega arith) b (omega arith))

  -- the sums of a node by those of its children: the recursion, without levels
  pub sums_by_children : (nodes : ℕ) → ((k : ℕ) → k < nodes → Node k) → (node : ℕ) → node < nodes
      → node_sums f triangle order links node ≡ sums_by f triangle order links (eqb (kind_at links node) 1) (node_sums f triangle order links) node
  sums_by_children nodes is node l = sym (sums_by_earlier nodes is node (node_sums f triangle order links) l (λ k b. refl))
