-- The union of a slice's boxes, from the left, is the box over the slice: what the split rules compute is the box that a tree has.
use mathlib.Core.Path.{◌≡◌, refl}
use mathlib.Core.List.{List, [], ◌∷◌, map, foldl}
use Prim.Native.Nat.{ℕ, ◌<◌}
use native.Mathlib.Omega.{arith}
use lib.ListN.{length}
use lib.Ieee.{Format}
use Rattle.spec_shapes.specs.Boxes.{Box, union}
use Rattle.spec_tree.specs.Trees.{joined_to, joined}
use Rattle.spec_splits.specs.Splits.{union_of}

joined_from : (box_at : ℕ → Box) (b : Box) (slice : List ℕ) → foldl union b (map box_at slice) ≡ joined_to box_at b slice
unfolding joined_to
joined_from box_at b [] = refl
joined_from box_at b (t ∷ slice) = joined_from box_at (union b (box_at t)) slice

-- the union that the program makes of a slice's boxes is the box that the tree has over them
pub union_is_joined : (f : Format) (box_at : ℕ → Box) (slice : List ℕ) → 0 < length slice → union_of f (map box_at slice) ≡ joined box_at slice
unfolding union_of joined
union_is_joined f box_at [] w = absurd (omega arith)
union_is_joined f box_at (t ∷ slice) w = joined_from box_at (box_at t) slice
