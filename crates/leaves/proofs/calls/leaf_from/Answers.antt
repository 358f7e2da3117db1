-- `leaves::calls::leaf_from` meets its contract. The invariant: the leaf that is sought is found from this node on.
use mathlib.Core.Path.{refl, sym, ap, ◌∙◌}
use native.Mathlib.Omega.{arith}
use Rattle.spec_tree.specs.Leaves as Leaves
use Rattle.spec_tree.specs.Leaves.{leaf_from}
use Rattle.spec_tree.proofs.Seeking.{seek_here, seek_past, seek_on, seek_ends}
use Rattle.leaves.proofs.calls.leaf_from.Goals as goal
use Rattle.leaves.proofs.calls.leaf_from.Goals.{in-Leaf+else-remaining-eq0, in-Branch}

pub loop-node-init : goal.loop-node-init
loop-node-init c = refl

pub node_at-requires : goal.node_at-requires
node_at-requires c = omega (arith, c.requires.links_there)

pub node_box-over-requires : goal.node_box-over-requires
node_box-over-requires c = omega (arith, c.requires.boxes_there)

pub returns-then-remaining-eq0 : goal.returns-then-remaining-eq0
returns-then-remaining-eq0 c =
    let at = c.in-Leaf.ensures in
    rw (at.first_is, at.last_is, c.node_box-over.ensures)
    (sym (seek_here _ _ _ _ c.loop-node-test.true _ at.is_leaf c.if-remaining-eq0.true) ∙ c.loop-node.invariant)

pub overflow_sub-remaining : goal.overflow_sub-remaining
overflow_sub-remaining c = omega (arith, c.if-remaining-eq0.false)

pub loop-node-preserved : goal.loop-node-preserved
loop-node-preserved c =
    elim c.match-node_at.branch [
      | in-Leaf+else-remaining-eq0 w ↦
          ap (leaf_from _ _ _ _) w.remaining-is
          ∙ seek_past _ _ _ _ c.loop-node-test.true _ w.in-Leaf.ensures.is_leaf w.if-remaining-eq0.false
          ∙ c.loop-node.invariant
      | in-Branch w ↦
          ap (leaf_from _ _ _ _) w.remaining-is ∙ seek_on _ _ _ _ c.loop-node-test.true _ w.in-Branch.ensures.no_leaf
          ∙ c.loop-node.invariant
    ]

pub returns : goal.returns
returns c = sym (seek_ends _ _ _ _ _ (omega (arith, c.loop-node-test.false))) ∙ c.loop-node.invariant
