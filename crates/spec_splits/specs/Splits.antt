-- What a split rule answers, and the boxes that it looks at: those of the triangles that a slice of the order list numbers, in its order.
use Rattle.std.specs.Prelude.{◌≡◌, false, ℕ, ◌+◌, ◌*◌, ◌<◌, ◌≤◌, length, get_or, Float}
use mathlib.Core.List.{List, [], ◌∷◌, map, foldl}
use Rattle.std.specs.Float.{Format}
use Rattle.std.specs.Float.Ieee.{lt}
use Rattle.spec_numbers.specs.Axes.{Axis, X, Y, Z}
use Rattle.spec_shapes.specs.Points.{on}
use Rattle.spec_shapes.specs.Boxes.{Box, empty, union, centre}
use Rattle.spec_shapes.specs.Plain.{PlainBox}
use Rattle.spec_tree.specs.Trees.{node_box}

-- the slice is cut before this object, or stays whole
pub data Split : Type 0 where
  cut_at : ℕ → Split
  nowhere : Split

-- ---- a table of the triangles' boxes, six numbers each as for nodes: the smallest x y z, then the largest
unfoldable pub box_in : List Float → ℕ → Box
box_in bounds t = node_box bounds t

abbrev pub boxes_in : List Float → List ℕ → List Box
boxes_in bounds slice = map (box_in bounds) slice

-- where the number of an axis stands in a point
abbrev pub place : Axis → ℕ
place X = 0
place Y = 1
place Z = 2

-- the table has a box for the triangle t
abbrev pub InTable : List Float → ℕ → Type 0
InTable bounds t = 6 * t + 6 ≤ length bounds

abbrev pub AllInTable : List Float → List ℕ → Type 0
AllInTable bounds slice = (i : ℕ) → i < length slice → InTable bounds (get_or slice i 0)

-- what a rule needs of a slice: each of its triangles has a box in the table, and that box is plain
pub record Boxed (f : Format) (bounds : List Float) (slice : List ℕ) : Type 0 where
  pub in_table : AllInTable bounds slice
  pub plain : (i : ℕ) → i < length slice → PlainBox f (box_in bounds (get_or slice i 0))

-- ---- the union of boxes, from the left
unfoldable pub union_of : Format → List Box → Box
union_of f [] = empty f
union_of f (b ∷ bs) = foldl union b bs

-- ---- what may be said of a cut
-- a cut of n objects before object k leaves objects on both sides, so that no child of a node is empty
pub record CutsInside (k n : ℕ) : Type 0 where
  pub after_first : 0 < k
  pub before_end : k < n

-- no centre is below x on the axis
abbrev pub NoneBelow : Format → Axis → Float → List Box → Type 0
NoneBelow f axis x [] = Unit {0}
NoneBelow f axis x (b ∷ bs) = (lt (on axis (centre f b)) x ≡ false) × NoneBelow f axis x bs

-- no centre is below the first, as where the boxes are sorted by their centres
abbrev pub FirstIsLeast : Format → Axis → List Box → Type 0
FirstIsLeast f axis [] = Unit {0}
FirstIsLeast f axis (b ∷ bs) = NoneBelow f axis (on axis (centre f b)) bs
