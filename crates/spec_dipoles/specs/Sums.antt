-- The sums of a node: a leaf's over its triangles in the order of the order list, a branch's of its left and its right child's.
-- And the dipole that is kept of them beside the tree.
use Rattle.std.specs.Prelude.{Bool, true, false, not, cond, ℕ, zero as none, suc, eqb, pos, negsuc, Float}
use mathlib.Core.List.{List, foldl}
use Rattle.std.specs.Float.{Format, fin}
use Rattle.std.specs.Float.Ieee.{add, mul, eq}
use Rattle.spec_numbers.specs.Values.{zero}
use Rattle.spec_numbers.specs.Hold.{larger}
use Rattle.spec_shapes.specs.Points.{Point, plus, minus, scale, divided_by, dot, cross}
use Rattle.spec_shapes.specs.Boxes.{Box}
use Rattle.spec_shapes.specs.Triangles.{Triangle}
use Rattle.spec_angles.specs.Root.{root_or_nan}
use Rattle.spec_angles.specs.Winding.{norm}
use Rattle.spec_tree.specs.Trees.{Tree, leaf, branch, kind_at, left_at, right_at}
use Rattle.spec_tree.specs.Hangs.{leaf_slice}
use Rattle.spec_dipoles.specs.Matrices.{Matrix, origin, zeros, outer, added, less}

-- ---- of one triangle
abbrev pub half : Float
half = fin false 1 (negsuc 0)

abbrev pub three : Float
three = fin false 3 (pos 0)

-- (b - a) × (c - a)
unfoldable pub cross_of : Format → Triangle → Point
cross_of f t = cross f (minus f t.b t.a) (minus f t.c t.a)

-- half the norm of that
unfoldable pub area_of : Format → Triangle → Float
area_of f t = mul f (norm f (cross_of f t)) half

-- a + b + c from the left, over 3
unfoldable pub centre_of : Format → Triangle → Point
centre_of f t = divided_by f (plus f (plus f t.a t.b) t.c) three

-- the cross product over its norm
unfoldable pub normal_of : Format → Triangle → Point
normal_of f t = divided_by f (cross_of f t) (norm f (cross_of f t))

-- a cross product of length zero, squared, has no direction
unfoldable pub has_normal : Format → Triangle → Bool
has_normal f t = not (eq (dot f (cross_of f t) (cross_of f t)) zero)

-- ---- of several
-- Normals times areas; centres times areas, each times its normal transposed; areas; centres times areas.
pub record Sums : Type 0 where
  pub normal : Point
  pub moments : Matrix
  pub area : Float
  pub centre : Point

unfoldable pub no_sums : Sums
no_sums = record { normal = origin; moments = zeros; area = zero; centre = origin }

-- and a triangle more
unfoldable pub with_triangle : Format → Sums → Triangle → Sums
with_triangle f s t =
    let area = area_of f t in
    let weighted = scale f (centre_of f t) area in
    record {
      normal = plus f s.normal (scale f (normal_of f t) area);
      moments = added f s.moments (outer f weighted (normal_of f t));
      area = add f s.area area;
      centre = plus f s.centre weighted;
    }

-- a triangle without a normal is left out
unfoldable pub with_next : Format → (ℕ → Triangle) → Sums → ℕ → Sums
with_next f triangle s k = cond (has_normal f (triangle k)) (with_triangle f s (triangle k)) s

-- the triangles of a leaf, one after another
unfoldable pub leaf_sums : Format → (ℕ → Triangle) → List ℕ → Sums
leaf_sums f triangle slice = foldl (with_next f triangle) no_sums slice

-- left plus right
unfoldable pub joined_sums : Format → Sums → Sums → Sums
joined_sums f l r = record {
  normal = plus f l.normal r.normal;
  moments = added f l.moments r.moments;
  area = add f l.area r.area;
  centre = plus f l.centre r.centre;
}

-- ---- of a node
module _ (f : Format) (triangle : ℕ → Triangle) (order links : List ℕ) where
  abbrev pub sums_by : (is_leaf : Bool) → (ℕ → Sums) → ℕ → Sums
  sums_by true below node = leaf_sums f triangle (leaf_slice order links node)
  sums_by false below node = joined_sums f (below (left_at links node)) (below (right_at links node))

  -- with so many levels remaining, so that it ends on any links
  unfoldable pub sums_at : ℕ → ℕ → Sums
  sums_at none node = no_sums
  sums_at (suc levels) node = sums_by (eqb (kind_at links node) 1) (sums_at levels) node

  -- children stand before their parent, so that there are levels enough
  unfoldable pub node_sums : ℕ → Sums
  node_sums node = sums_at (suc node) node

-- of a tree: its leaves' sums, joined along it
unfoldable pub tree_sums : Format → (ℕ → Triangle) → Tree → Sums
tree_sums f triangle (leaf slice) = leaf_sums f triangle slice
tree_sums f triangle (branch l r) = joined_sums f (tree_sums f triangle l) (tree_sums f triangle r)

-- ---- what is kept of a node beside the tree
-- First and second order, about the centre; the radius reaches from there to the farther of the box's two corners.
pub record Dipole : Type 0 where
  pub first : Point
  pub second : Matrix
  pub radius : Float
  pub centre : Point

-- The centre is the sum of the weighted centres over the area: where that is zero, it is no number.
unfoldable pub dipole_of : Format → Box → Sums → Dipole
dipole_of f box s =
    let centre = divided_by f s.centre s.area in
    let low = minus f box.min centre in
    let high = minus f box.max centre in
    record {
      first = s.normal;
      second = less f s.moments (outer f centre s.normal);
      radius = root_or_nan f (larger (dot f low low) (dot f high high));
      centre = centre;
    }
