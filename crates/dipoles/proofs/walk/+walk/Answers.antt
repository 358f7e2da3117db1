-- `dipoles::walk::walk` meets its contract. The measure is the number of levels that it may look at.
use mathlib.Core.Path.{sym, ◌∙◌}
use lib.Ieee.{of_bits}
use Rattle.spec_dipoles.proofs.Fast.{none_left, used_far, near_leaf, near_branch}
use Rattle.dipoles.proofs.walk.+walk.Goals as goal

pub returns-then-levels-eq0 : goal.returns-then-levels-eq0
unfolding of_bits
returns-then-levels-eq0 t c = none_left _ _ _ _ _ _ _ _ _ c.if-levels-eq0.true

pub returns-then-is_finite : goal.returns-then-is_finite
returns-then-is_finite t c =
    used_far _ _ _ _ _ _ _ _ _ c.if-levels-eq0.false _ c.term_at-term.ensures (sym c.is_finite.ensures ∙ c.if-is_finite.true)

pub returns-in-Leaf : goal.returns-in-Leaf
returns-in-Leaf t c =
    let leaf = c.in-Leaf.ensures in
    near_leaf _ _ _ _ _ _ _ _ _ c.if-levels-eq0.false _ c.term_at-term.ensures (sym c.is_finite.ensures ∙ c.if-is_finite.false) _ _
    leaf.first_is leaf.last_is _ leaf.is_leaf c.leaf_winding.ensures

pub returns-in-Branch : goal.returns-in-Branch
returns-in-Branch t c =
    let branch = c.in-Branch.ensures in
    near_branch _ _ _ _ _ _ _ _ _ c.if-levels-eq0.false _ c.term_at-term.ensures (sym c.is_finite.ensures ∙ c.if-is_finite.false) _ _
    branch.left_is branch.right_is _ _ branch.no_leaf c.walk-from_left.ensures c.walk-from_right.ensures
