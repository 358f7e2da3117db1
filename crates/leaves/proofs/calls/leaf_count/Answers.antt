-- `leaves::calls::leaf_count` meets its contract. The invariant: the leaves counted and those that remain are all leaves.
use native.Mathlib.Omega.{arith}
use Rattle.spec_tree.proofs.Seeking.{counting_starts, counting_leaf, counting_other, counting_ends}
use Rattle.leaves.proofs.calls.leaf_count.Goals as goal
use Rattle.leaves.proofs.calls.leaf_count.Goals.{in-Leaf, in-Branch}

pub loop-node-init : goal.loop-node-init
loop-node-init c = (omega arith, omega arith, counting_starts _ _)

pub loop-node-preserved : goal.loop-node-preserved
loop-node-preserved c =
    elim c.match-node_at.branch [
      | in-Leaf w ↦
          rw w.count-is
          (omega arith, omega arith, counting_leaf _ _ _ c.loop-node-test.true _ w.in-Leaf.ensures.is_leaf c.loop-node.invariant.2)
      | in-Branch w ↦
          rw w.count-is
          (omega arith, omega arith, counting_other _ _ _ c.loop-node-test.true _ w.in-Branch.ensures.no_leaf c.loop-node.invariant.2)
    ]

pub returns : goal.returns
returns c = counting_ends _ _ _ _ (omega (arith, c.loop-node-test.false)) c.loop-node.invariant.2
