-- `tree::boxes::given_box` meets its contract: a sound leaf's range lies within the order list, a sound branch's children stand before it.
use native.Mathlib.Omega.{arith}
use borrow.Author.Tests.{ne_eqb}
use Rattle.spec_tree.proofs.Hangs.{sound_leaf, sound_branch}
use Rattle.tree.proofs.boxes.given_box.Goals as goal

pub node_at-requires : goal.node_at-requires
node_at-requires c = c.requires.links_there

pub range_box-requires : goal.range_box-requires
range_box-requires c =
    let at = c.in-Leaf.ensures in
    let range = sound_leaf _ _ _ c.requires.node_is at.is_leaf in
    record { numbered = c.requires.entries; some = omega arith; within = omega arith }

pub returns-in-Leaf : goal.returns-in-Leaf
returns-in-Leaf c = let at = c.in-Leaf.ensures in rw (at.is_leaf, ← at.first_is, ← at.last_is) c.range_box.ensures

pub node_box-requires : goal.node_box-requires
node_box-requires c =
    let at = c.in-Branch.ensures in
    let children = sound_branch _ _ _ c.requires.node_is at.no_leaf in
    omega arith

pub node_box-requires-in-Branch : goal.node_box-requires-in-Branch
node_box-requires-in-Branch c =
    let at = c.in-Branch.ensures in
    let children = sound_branch _ _ _ c.requires.node_is at.no_leaf in
    omega arith

pub returns-in-Branch : goal.returns-in-Branch
returns-in-Branch c =
    let at = c.in-Branch.ensures in
    rw (ne_eqb _ 1 at.no_leaf, ← at.left_is, ← at.right_is, ← c.node_box.ensures, ← c.node_box-in-Branch.ensures) c.union_box.ensures
