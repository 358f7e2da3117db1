-- What a walk needs of the lists, so that it stays within them and ends.
use Rattle.std.specs.Prelude.{◌≡◌, List, ℕ, suc, ◌+◌, ◌^◌, ◌≤◌, ◌<◌, length, Float}
use Rattle.spec_lists.specs.Reading.{box_at, triangle_count}
use Rattle.spec_tree.specs.Trees.{Tree, numbers, levels, kind_at, left_at, right_at}
use Rattle.spec_tree.specs.Order.{EntriesBelow}
use Rattle.spec_tree.specs.Hangs.{Hangs}

-- A tree hangs at the node, no deeper than the levels that remain; its triangles are in the list, and their count does not overflow.
pub record NodeSafe (triangles : List Float) (order links : List ℕ) (boxes : List Float) (d node measured : ℕ) : Type 0 where
  pub tree : Tree
  pub hangs : Hangs (box_at triangles) order links boxes tree node
  pub deep : levels tree ≤ suc d
  pub room : measured + length (numbers tree) < 2 ^ 64
  pub listed : EntriesBelow (triangle_count triangles) order

-- the same of two children
pub record PairSafe (triangles : List Float) (order links : List ℕ) (boxes : List Float) (d left right measured : ℕ) : Type 0 where
  pub left_tree : Tree
  pub right_tree : Tree
  pub left_hangs : Hangs (box_at triangles) order links boxes left_tree left
  pub right_hangs : Hangs (box_at triangles) order links boxes right_tree right
  pub left_deep : levels left_tree ≤ suc d
  pub right_deep : levels right_tree ≤ suc d
  pub room : measured + (length (numbers left_tree) + length (numbers right_tree)) < 2 ^ 64
  pub listed : EntriesBelow (triangle_count triangles) order

-- kind, left and right are the node's three numbers
pub record LinksAre (links : List ℕ) (node kind left right : ℕ) : Type 0 where
  pub kind_is : kind ≡ kind_at links node
  pub left_is : left ≡ left_at links node
  pub right_is : right ≡ right_at links node
