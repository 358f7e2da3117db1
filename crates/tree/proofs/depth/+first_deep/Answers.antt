-- `tree::depth::first_deep` meets its contract. The measure is the number of levels that remain.
use mathlib.Core.Path.{sym, ◌∙◌}
use native.Mathlib.Omega.{arith}
use Rattle.spec_tree.proofs.Depth.{descends_left, descends_right}
use Rattle.spec_tree.proofs.Down.{deep_all, deep_leaf, deep_left, deep_right, deep_nowhere}
use Rattle.tree.proofs.depth.+first_deep.Goals as goal

pub first_of-requires : goal.first_of-requires
first_of-requires t c = c.requires

pub returns-then-levels-eq0 : goal.returns-then-levels-eq0
returns-then-levels-eq0 t c = c.first_of.ensures ∙ sym (deep_all _ _ _ c.if-levels-eq0.true)

pub kind_at-requires : goal.kind_at-requires
kind_at-requires t c = c.requires.there

pub overflow_add-result : goal.overflow_add-result
overflow_add-result t c = omega (arith, c.requires.there)

pub returns-then-kind_at-ne2 : goal.returns-then-kind_at-ne2
returns-then-kind_at-ne2 t c = sym (deep_leaf _ _ _ c.if-levels-eq0.false (λ p. c.if-kind_at-ne2.true (c.kind_at.ensures ∙ p)))

pub left_at-left-requires : goal.left_at-left-requires
left_at-left-requires t c = c.requires.there

pub overflow_sub-levels : goal.overflow_sub-levels
overflow_sub-levels t c = omega (arith, c.if-levels-eq0.false)

pub first_deep-in_left-requires : goal.first_deep-in_left-requires
first_deep-in_left-requires t c = (
  omega (arith, c.if-levels-eq0.false),
  rw c.left_at-left.ensures (descends_left _ _ c.requires (sym c.kind_at.ensures ∙ c.if-kind_at-ne2.false)),
)

pub returns-then-in_left-left : goal.returns-then-in_left-left
returns-then-in_left-left t c =
    sym (deep_left _ _ _ c.if-levels-eq0.false (sym c.kind_at.ensures ∙ c.if-kind_at-ne2.false) _ c.left_at-left.ensures _
    c.first_deep-in_left.ensures c.if-in_left-left.true)

pub right_at-right-requires : goal.right_at-right-requires
right_at-right-requires t c =
    c.requires.there

pub overflow_sub-levels-2 : goal.overflow_sub-levels-2
overflow_sub-levels-2 t c =
    omega (arith, c.if-levels-eq0.false)

pub first_deep-in_right-requires : goal.first_deep-in_right-requires
first_deep-in_right-requires t c = (
  omega (arith, c.if-levels-eq0.false),
  rw c.right_at-right.ensures (descends_right _ _ c.requires (sym c.kind_at.ensures ∙ c.if-kind_at-ne2.false)),
)

pub returns-then-in_right-right : goal.returns-then-in_right-right
returns-then-in_right-right t c =
    sym (deep_right _ _ _ c.if-levels-eq0.false (sym c.kind_at.ensures ∙ c.if-kind_at-ne2.false) _ c.left_at-left.ensures _
    c.first_deep-in_left.ensures c.if-in_left-left.false _ c.right_at-right.ensures _ c.first_deep-in_right.ensures c.if-in_right-right.true)

pub overflow_add-result-2 : goal.overflow_add-result-2
overflow_add-result-2 t c =
    omega (arith, c.requires.there)

pub returns : goal.returns
returns t c =
    sym (deep_nowhere _ _ _ c.if-levels-eq0.false (sym c.kind_at.ensures ∙ c.if-kind_at-ne2.false) _ c.left_at-left.ensures _
    c.first_deep-in_left.ensures c.if-in_left-left.false _ c.right_at-right.ensures _ c.first_deep-in_right.ensures c.if-in_right-right.false)
