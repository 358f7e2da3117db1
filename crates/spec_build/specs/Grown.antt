-- A tree grown from its root: a slice of the order list is a leaf, or is cut into two slices that are grown in their turn.
-- Over any way to try a slice, so that the laws of growing are proved once for both strategies.
use Rattle.std.specs.Prelude.{Bool, true, false, ℕ, zero, suc, ◌<◌, leb, length, take, drop}
use mathlib.Core.List.{List, Permᴰ}
use Rattle.spec_tree.specs.Trees.{Tree, leaf, branch}
use Rattle.spec_tables.specs.Each.{Each}

-- what a try leaves: the slice in the order that it was brought into, and where it is cut, if it is
pub data Tried : Type 0 where
  cut : List ℕ → ℕ → Tried
  uncut : List ℕ → Tried

-- the slice in the order that the try left
abbrev pub slice_of : Tried → List ℕ
slice_of (cut slice k) = slice
slice_of (uncut slice) = slice

-- neither side of the cut is empty
abbrev pub CutInside : Tried → Type 0
CutInside (cut slice k) = (0 < k) × (k < length slice)
CutInside (uncut slice) = Unit {0}

-- a slice that is not cut is a leaf
abbrev pub parted : (List ℕ → Tree) → Tried → Tree
parted below (cut slice k) = branch (below (take k slice)) (below (drop k slice))
parted below (uncut slice) = leaf slice

-- a slice is small enough to be a leaf, or is tried
abbrev pub grown_by : Bool → (List ℕ → Tried) → (List ℕ → Tree) → List ℕ → Tree
grown_by true tried below slice = leaf slice
grown_by false tried below slice = parted below (tried slice)

-- the tree of a slice, with `levels_remaining` levels left below this one
unfoldable pub grown : (List ℕ → Tried) → (leaf_minimum levelsRemaining : ℕ) → List ℕ → Tree
grown tried leaf_minimum zero slice = leaf slice
grown tried leaf_minimum (suc remaining) slice = grown_by (leb (length slice) leaf_minimum) tried (grown tried leaf_minimum remaining) slice

-- what the laws need of the tries: a slice is only brought into another order, and one of two triangles or more is cut inside, if it is cut
pub record Trying (tried : List ℕ → Tried) (Used : ℕ → Type 0) : Type 0 where
  pub permutes : (slice : List ℕ) → Permᴰ (slice_of (tried slice)) slice
  pub inside : (slice : List ℕ) → 1 < length slice → Each Used slice → CutInside (tried slice)
