-- `tree::scan::nodes_refusal` meets its contract. The invariant: nothing broke before this node, and the first box that differs among those before it is known.
use mathlib.Core.Path.{◌≡◌}
use Prim.Native.Nat.{◌≤◌}
use Rattle.spec_lists.specs.Reading.{box_at}
use Rattle.spec_tree.specs.Reasons.{first_failing, is_boxed}
use Rattle.spec_tree.specs.Ways.{Scanned}
use Rattle.tree.proofs.scan.nodes_refusal.Given as goal

abbrev pub invariant-loop-node : goal.invariant-loop-node
invariant-loop-node l =
    (l.node ≤ l.nodes)
    × (Scanned l.n l.links l.node l.entry
    × (l.unlike ≡ first_failing (is_boxed (box_at l.drawing.triangles.now) l.drawing.order.now l.links l.drawing.boxes.now) l.node))
