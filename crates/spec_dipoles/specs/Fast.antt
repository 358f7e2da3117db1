-- The winding number by dipoles: a node that is used as far gives its far term, any other leaf its exact winding number, any other branch
-- its left child's number plus its right child's.
use Rattle.std.specs.Prelude.{Bool, true, false, List, ℕ, zero as none, suc, eqb, length, get_or, Float}
use Rattle.std.specs.Float.{Format}
use Rattle.std.specs.Float.Ieee.{add}
use Rattle.spec_numbers.specs.Values.{zero}
use Rattle.spec_shapes.specs.Points.{Point}
use Rattle.spec_shapes.specs.Triangles.{Triangle}
use Rattle.spec_angles.specs.Winding.{winding_number}
use Rattle.spec_tree.specs.Trees.{Tree, leaf, branch, kind_at, left_at, right_at}
use Rattle.spec_tree.specs.Hangs.{leaf_slice}
use Rattle.spec_dipoles.specs.Sums.{Dipole}
use Rattle.spec_dipoles.specs.Far.{is_used, far_term}

-- the exact winding number of the triangles that a slice of the order list numbers, in its order
unfoldable pub slice_winding : Format → (ℕ → Triangle) → List ℕ → Point → Float
slice_winding f triangle slice q = winding_number f (λ i. triangle (get_or slice i 0)) (length slice) q

module _ (f : Format) (triangle : ℕ → Triangle) (order links : List ℕ) (dipole : ℕ → Dipole) (accuracy : Float) (q : Point) where
  abbrev pub opened_by : (is_leaf : Bool) → (ℕ → Float) → ℕ → Float
  opened_by true below node = slice_winding f triangle (leaf_slice order links node) q
  opened_by false below node = add f (below (left_at links node)) (below (right_at links node))

  abbrev pub fast_by : (used : Bool) → (ℕ → Float) → ℕ → Float
  fast_by true below node = far_term f (dipole node) q
  fast_by false below node = opened_by (eqb (kind_at links node) 1) below node

  -- of the node, with so many levels remaining, so that it ends on any links
  unfoldable pub fast_at : ℕ → ℕ → Float
  fast_at none node = zero
  fast_at (suc levels) node = fast_by (is_used f (dipole node) accuracy q) (fast_at levels) node

-- the leaves' exact winding numbers, added up along the tree
unfoldable pub along_tree : Format → (ℕ → Triangle) → Point → Tree → Float
along_tree f triangle q (leaf slice) = slice_winding f triangle slice q
along_tree f triangle q (branch l r) = add f (along_tree f triangle q l) (along_tree f triangle q r)
