-- What growing a slice of the order list needs of the tables and the lists that are lent, and what it leaves in them.
use Rattle.std.specs.Prelude.{◌≡◌, List, [], ◌∷◌, ℕ, ◌+◌, ◌*◌, ◌/◌, ◌≤◌, ◌<◌, max, length, get_or, Float}
use Rattle.std.specs.Float.{Format, nan}
use Rattle.spec_tables.specs.Tables as Tables
use Rattle.spec_numbers.specs.Values.{Number}
use Rattle.spec_numbers.specs.Axes.{Axis}
use Rattle.spec_shapes.specs.Boxes.{Box, union, Proper}
use Rattle.spec_shapes.specs.Plain.{PlainBox}
use Rattle.spec_lists.specs.Limits.{max_triangles, deepest}
use Rattle.spec_tree.specs.Trees.{Tree, numbers, levels, root_from, links_from, six_of, box_over, boxes_of}
use Rattle.spec_tables.specs.Each.{Each}
use Rattle.spec_sort.specs.Sort.{Keyed}
use Rattle.spec_splits.specs.Splits.{place, InTable, AllInTable, Boxed, box_in}
use Rattle.spec_build.specs.Grown.{grown}
use Rattle.spec_build.specs.Tries.{centre_on, tried}

-- ---- the tables
-- the table of centres is three slices of this length, one an axis
abbrev pub rows : List Float → ℕ
rows centres = length centres / 3

-- the centres on one axis, by triangle number
abbrev pub keys_on : Axis → List Float → List Float
keys_on axis centres = Tables.slice centres (place axis * rows centres) (rows centres)

-- what the tables have of triangle t
pub record Tabled (f : Format) (bounds centres : List Float) (t : ℕ) : Type 0 where
  pub few : t < rows centres
  pub in_table : InTable bounds t
  pub plain : PlainBox f (box_in bounds t)
  pub proper : Proper (box_in bounds t)
  pub centre_is : (axis : Axis) → get_or (keys_on axis centres) t nan ≡ centre_on f (box_in bounds) axis t
  pub centred : (axis : Axis) → Number (centre_on f (box_in bounds) axis t)

-- needs of making the centres of the first `count` triangles, in slices of this length
pub record CentresNeeds (bounds : List Float) (count size : ℕ) : Type 0 where
  pub in_table : 6 * count ≤ length bounds
  pub few : count ≤ max_triangles
  pub room : count ≤ size

-- the centres on this axis stand in their slice of the table, and the rest is as it was
pub record CentresPut (f : Format) (bounds : List Float) (axis : Axis) (count : ℕ) (old new : List Float) : Type 0 where
  pub here : (t : ℕ) → t < count → get_or (keys_on axis new) t nan ≡ centre_on f (box_in bounds) axis t
  pub elsewhere : (other : Axis) → (place other ≡ place axis → ⊥) → keys_on other new ≡ keys_on other old
  pub long : length new ≡ length old

-- the centres on each axis stand in the table
pub record Centred (f : Format) (bounds : List Float) (count : ℕ) (old new : List Float) : Type 0 where
  pub centre_is : (axis : Axis) (t : ℕ) → t < count → get_or (keys_on axis new) t nan ≡ centre_on f (box_in bounds) axis t
  pub long : length new ≡ length old

-- ---- a slice, tried
-- needs of sorting a slice on an axis
pub record SortNeeds (axis : Axis) (centres : List Float) (slice scratch : List ℕ) : Type 0 where
  pub keyed : Each (Keyed (keys_on axis centres)) slice
  pub room : length slice ≤ length scratch

-- needs of the rule
pub record RuleNeeds (f : Format) (bounds : List Float) (slice : List ℕ) : Type 0 where
  pub boxed : Boxed f bounds slice
  pub some : 2 ≤ length slice
  pub few : length slice ≤ max_triangles

-- needs of a try: of the sort and of the rule, on one axis or on all
pub record Triable (f : Format) (bounds centres : List Float) (slice scratch : List ℕ) : Type 0 where
  pub tabled : Each (Tabled f bounds centres) slice
  pub some : 2 ≤ length slice
  pub few : length slice ≤ max_triangles
  pub room : length slice ≤ length scratch

-- ---- a slice, grown
-- the lists have room for the nodes of a tree over `count` triangles, from this node on
pub record RoomFor (count node : ℕ) (links : List ℕ) (boxes : List Float) : Type 0 where
  pub links_room : 3 * (node + 2 * count) ≤ length links + 3
  pub boxes_room : 6 * (node + 2 * count) ≤ length boxes + 6
  pub few : node + 2 * count ≤ 2 * max_triangles

-- needs of growing a slice: its triangles are in the tables, and its nodes have room
pub record Growable (f : Format) (bounds centres : List Float) (leaf_minimum remaining : ℕ) (slice scratch : List ℕ) (entry : ℕ) (links : List ℕ)
    (boxes : List Float) (node : ℕ) : Type 0 where
  pub tabled : Each (Tabled f bounds centres) slice
  pub leaf : 1 ≤ leaf_minimum
  pub shallow : remaining ≤ deepest
  pub some : 1 ≤ length slice
  pub few : entry + length slice ≤ max_triangles
  pub scratch_room : length slice ≤ length scratch
  pub room : RoomFor (length slice) node links boxes

-- ---- the nodes
-- needs of writing a leaf
pub record LeafNeeds (bounds : List Float) (slice : List ℕ) (entry : ℕ) (links : List ℕ) (boxes : List Float) (node : ℕ) : Type 0 where
  pub in_table : AllInTable bounds slice
  pub some : 0 < length slice
  pub few : entry + length slice ≤ max_triangles
  pub links_room : 3 * node + 3 ≤ length links
  pub boxes_room : 6 * node + 6 ≤ length boxes

-- needs of writing a branch, which stands right behind its right side
pub record BranchNeeds (leftRoot leftLevels rightRoot rightLevels : ℕ) (links : List ℕ) (boxes : List Float) : Type 0 where
  pub left_shallow : leftLevels ≤ deepest
  pub right_shallow : rightLevels ≤ deepest
  pub left_few : leftRoot < 2 * max_triangles
  pub right_few : rightRoot < 2 * max_triangles
  pub links_room : 3 * (rightRoot + 1) + 3 ≤ length links
  pub boxes_room : 6 * (rightRoot + 1) + 6 ≤ length boxes

-- what writing a branch leaves in the lists, and what it answers
pub record BranchPut (leftRoot leftLevels : ℕ) (leftBox : Box) (rightRoot rightLevels : ℕ) (rightBox : Box) (links links' : List ℕ) (boxes boxes' : List Float)
    (root deep : ℕ) (box : Box) : Type 0 where
  pub links_are : links' ≡ Tables.overwrite (3 * (rightRoot + 1)) (2 ∷ leftRoot ∷ rightRoot ∷ []) links
  pub boxes_are : boxes' ≡ Tables.overwrite (6 * (rightRoot + 1)) (six_of (union leftBox rightBox)) boxes
  pub root_is : root ≡ rightRoot + 1
  pub levels_are : deep ≡ max leftLevels rightLevels + 1
  pub box_is : box ≡ union leftBox rightBox

-- the nodes of the tree, put into the lists from this node on, and the tree's root, depth and box, which are answered
pub record Written (box_at : ℕ → Box) (t : Tree) (entry node : ℕ) (links links' : List ℕ) (boxes boxes' : List Float) (root deep : ℕ) (box : Box) : Type 0 where
  pub links_are : links' ≡ Tables.overwrite (3 * node) (links_from node entry t) links
  pub boxes_are : boxes' ≡ Tables.overwrite (6 * node) (boxes_of box_at t) boxes
  pub root_is : root ≡ root_from node t
  pub levels_are : deep ≡ levels t
  pub box_is : box ≡ box_over box_at t

-- the tree of a slice, over the table of boxes
abbrev pub grown_in : Format → List Float → (strategy leaf_minimum remaining : ℕ) → List ℕ → Tree
grown_in f bounds strategy leaf_minimum remaining slice = grown (tried f (box_in bounds) strategy) leaf_minimum remaining slice

-- the slice is left in the order of the tree's leaves, and the tree's nodes are written
pub record GrownIs (f : Format) (bounds : List Float) (strategy leaf_minimum remaining : ℕ) (slice slice' : List ℕ) (entry : ℕ) (links links' : List ℕ)
    (boxes boxes' : List Float) (node root deep : ℕ) (box : Box) : Type 0 where
  pub order_is : slice' ≡ numbers (grown_in f bounds strategy leaf_minimum remaining slice)
  pub written : Written (box_in bounds) (grown_in f bounds strategy leaf_minimum remaining slice) entry node links links' boxes boxes' root deep box
