-- `leaves::calls::leaf_from` meets its contract. The invariant: the leaf that is sought is found from this node on.
use mathlib.Core.Path.{◌≡◌}
use Rattle.spec_tree.specs.Leaves.{leaf_from}
use Rattle.leaves.proofs.calls.leaf_from.Given as goal

abbrev pub invariant-loop-node : goal.invariant-loop-node
invariant-loop-node l = leaf_from l.links l.boxes l.nodes l.node l.remaining ≡ leaf_from l.links l.boxes l.nodes l.from l.k
