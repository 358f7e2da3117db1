-- `tree::boxes::joined` meets its contract: before each turn the box is what joins with the rest to the whole.
use mathlib.Core.Path.{◌≡◌}
use Prim.Native.Nat.{◌+◌}
use lib.ListN.{drop}
use Rattle.shapes.specs.Values.{as_box}
use Rattle.spec_lists.specs.Reading.{box_at}
use Rattle.spec_tree.specs.Trees.{joined_to, joined}
use Rattle.tree.proofs.boxes.joined.Given as goal

abbrev pub invariant-loop-t : goal.invariant-loop-t
invariant-loop-t l = joined_to (box_at l.triangles) (as_box l.over) (drop (l.t-index + 1) l.slice) ≡ joined (box_at l.triangles) l.slice
