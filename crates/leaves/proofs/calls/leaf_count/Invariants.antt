-- `leaves::calls::leaf_count` meets its contract. The invariant: the leaves counted and those that remain are all leaves.
use Prim.Native.Nat.{◌≤◌}
use Rattle.spec_tree.proofs.Seeking.{Counts}
use Rattle.leaves.proofs.calls.leaf_count.Given as goal

abbrev pub invariant-loop-node : goal.invariant-loop-node
invariant-loop-node l = (l.node ≤ l.nodes) × (l.count ≤ l.node) × Counts l.links l.nodes l.node l.count
