-- `fast_winding` with the list that `node_sums` left: it reads the dipole that each node has, since the walk meets no node but the tree's.
use mathlib.Core.Path.{◌≡◌, refl, ap, ap₂, ◌∙◌}
use mathlib.Core.Bool.{Bool, true, false}
use mathlib.Core.Logic.{◌⊎◌, inl, inr}
use mathlib.Core.List.{List}
use Prim.Native.Nat.{ℕ, zero, suc, ◌-◌, ◌<◌}
use native.Mathlib.Omega.{arith}
use lib.ListN.{length}
use lib.Ieee.{Float, Format, add}
use Rattle.spec_tables.specs.Tables.{overwrite}
use Rattle.spec_lists.specs.Limits.{deepest}
use Rattle.spec_lists.specs.Reading.{triangle_at}
use Rattle.spec_lists.specs.Refusals.{passes}
use Rattle.spec_lists.proofs.Verdicts.{all_pass}
use Rattle.spec_shapes.specs.Points.{Point}
use Rattle.spec_shapes.specs.Triangles.{Triangle}
use Rattle.spec_tree.specs.Trees.{left_at, right_at}
use Rattle.spec_tree.specs.Hangs.{LeafRange, ChildrenBefore}
use Rattle.spec_dipoles.specs.Sums.{Dipole}
use Rattle.spec_dipoles.specs.Far.{is_used, far_term}
use Rattle.spec_dipoles.specs.Fast.{fast_by, fast_at}
use Rattle.spec_dipoles.specs.Calls.{dipole_at, dipole_in, dipoles, sums_refusal, after_sums, fast_about}
use Rattle.spec_tree.proofs.Unchanged.{tree_passed}
use Rattle.spec_dipoles.proofs.Readable.{accepted_readable, accepted_some}
use Rattle.spec_dipoles.proofs.Lent.{dipole_read}

-- ---- two lists of dipoles that agree at the tree's nodes give the same number
module _ (f : Format) (triangle : ℕ → Triangle) (order links : List ℕ) (d e : ℕ → Dipole) (accuracy : Float) (q : Point) (nodes : ℕ)
    (is : (k : ℕ) → k < nodes → LeafRange order links k ⊎ ChildrenBefore links k) (same : (k : ℕ) → k < nodes → d k ≡ e k) where
  abbrev by : (ℕ → Dipole) → Bool → (ℕ → Float) → ℕ → Float
  by dipole = fast_by f triangle order links dipole accuracy q

  below_same : (used : Bool) (node : ℕ) (l r : ℕ → Float) → node < nodes → ((k : ℕ) → k < nodes → l k ≡ r k)
      → LeafRange order links node ⊎ ChildrenBefore links node → by d used l node ≡ by e used r node
  below_same true node l r h below any = ap (λ (x : Dipole). far_term f x q) (same node h)
  below_same false node l r h below (inl leaf) = rw leaf.is_leaf
  below_same false node l r h below (inr children) =
      rw children.is_branch
      (ap₂ (add f) (below (left_at links node) (omega (arith, children.left_before))) (below (right_at links node) (omega (arith, children.right_before))))

  walk_same : (levels node : ℕ) → node < nodes
      → fast_at f triangle order links d accuracy q levels node ≡ fast_at f triangle order links e accuracy q levels node
  unfolding fast_at
  walk_same zero node h = refl
  walk_same (suc levels) node h =
      ap (λ (x : Dipole). by d (is_used f x accuracy q) (fast_at f triangle order links d accuracy q levels) node) (same node h)
      ∙ below_same (is_used f (e node) accuracy q) node _ _ h (λ k l. walk_same levels k l) (is node h)

-- ---- what `node_sums` left
module _ (f : Format) (triangles : List Float) (order links : List ℕ) (boxes : List Float) (nodes : ℕ) (old : List Float) where
  -- each node's dipole is read where `node_sums` wrote it
  pub dipole_of_node : (k : ℕ) → k < nodes
      → dipole_at (overwrite 0 (dipoles f triangles order links boxes nodes) old) k ≡ dipole_in f triangles order links boxes k
  unfolding dipoles
  dipole_of_node k h = dipole_read (dipole_in f triangles order links boxes) nodes old k h

  -- A call with what `node_sums` left of a call that passed is by the dipoles that the nodes have: none is made up, and none is another node's.
  pub by_node_sums : (accuracy : Float) (q : Point) → sums_refusal triangles order links boxes nodes (length old) ≡ passes
      → fast_about f triangles order links nodes (after_sums f triangles order links boxes nodes old) accuracy q
      ≡ fast_at f (triangle_at triangles) order links (dipole_in f triangles order links boxes) accuracy q deepest (nodes - 1)
  unfolding fast_about after_sums sums_refusal
  by_node_sums accuracy q pass =
      let yes = tree_passed triangles order links boxes nodes (all_pass _ pass).1.1.0 in
      let some : 0 < nodes = accepted_some triangles order links boxes nodes yes in
      rw pass
      (walk_same f (triangle_at triangles) order links (dipole_at (overwrite 0 (dipoles f triangles order links boxes nodes) old))
      (dipole_in f triangles order links boxes) accuracy q nodes (accepted_readable triangles order links boxes nodes yes).node_is dipole_of_node
      deepest (nodes - 1) (omega arith))
