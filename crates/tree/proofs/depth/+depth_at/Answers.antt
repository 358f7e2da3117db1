-- `tree::depth::depth_at` meets its contract. The measure is the number of levels that it may look at.
use mathlib.Core.Path.{sym, ◌∙◌}
use native.Mathlib.Omega.{arith}
use Rattle.spec_tree.proofs.Depth.{depth_most, depth_none, depth_leaf, depth_branch, descends_left, descends_right}
use Prim.Native.Nat.{◌-◌}
use Rattle.tree.proofs.depth.+depth_at.Goals as goal

pub returns-then-most-eq0 : goal.returns-then-most-eq0
returns-then-most-eq0 t c = sym (depth_none _ _ _ c.if-most-eq0.true)

pub kind_at-requires : goal.kind_at-requires
kind_at-requires t c = c.requires.there

pub returns-then-kind_at-ne2 : goal.returns-then-kind_at-ne2
returns-then-kind_at-ne2 t c = sym (depth_leaf _ _ _ c.if-most-eq0.false (λ p. c.if-kind_at-ne2.true (c.kind_at.ensures ∙ p)))

pub overflow_sub-most : goal.overflow_sub-most
overflow_sub-most t c = omega (arith, c.if-most-eq0.false)

pub left_at-requires : goal.left_at-requires
left_at-requires t c = c.requires.there

pub depth_at-left-requires : goal.depth_at-left-requires
depth_at-left-requires t c = (
  omega (arith, c.if-most-eq0.false),
  rw c.left_at.ensures (descends_left _ _ c.requires (sym c.kind_at.ensures ∙ c.if-kind_at-ne2.false)),
)

pub overflow_sub-most-2 : goal.overflow_sub-most-2
overflow_sub-most-2 t c = omega (arith, c.if-most-eq0.false)

pub right_at-requires : goal.right_at-requires
right_at-requires t c =
    c.requires.there

pub depth_at-right-requires : goal.depth_at-right-requires
depth_at-right-requires t c = (
  omega (arith, c.if-most-eq0.false),
  rw c.right_at.ensures (descends_right _ _ c.requires (sym c.kind_at.ensures ∙ c.if-kind_at-ne2.false)),
)

pub overflow_add-result : goal.overflow_add-result
overflow_add-result t c =
    let args = c.args in
    omega (
      arith,
      c.max.ensures,
      c.depth_at-right.ensures,
      c.depth_at-left.ensures,
      depth_most args.links.now (args.most - 1) c.left_at.result,
      depth_most args.links.now (args.most - 1) c.right_at.result,
      c.if-most-eq0.false,
      c.well_formed.1.0,
    )

pub returns : goal.returns
returns t c =
    rw (
      depth_branch _ _ _ c.if-most-eq0.false (sym c.kind_at.ensures ∙ c.if-kind_at-ne2.false),
      ← c.left_at.ensures,
      ← c.right_at.ensures,
      ← c.depth_at-left.ensures,
      ← c.depth_at-right.ensures,
      c.max.ensures,
    )
