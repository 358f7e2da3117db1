-- `grow::grow::grow` meets its contract. The measure is the number of levels that remain.
use mathlib.Core.Path.{sym, ap, ◌∙◌}
use native.Mathlib.Omega.{arith}
use lib.Ieee.{binary32}
use Rattle.splits.specs.Values.{as_split}
use Rattle.spec_build.proofs.Growing.{limit_gives, some_remaining, uncut_needs, uncut_gives, cut_within, cut_ends, left_long, left_needs, cut_within_now, left_root_few, right_needs, branch_needs, branch_gives}
use Rattle.grow.proofs.grow.+grow.Goals as goal

pub returns-then-levels_remaining-slice : goal.returns-then-levels_remaining-slice
returns-then-levels_remaining-slice t c =
    limit_gives binary32 _ _ _ _ c.requires _ _ _ _ _ c.if-levels_remaining-slice.true c.put_leaf.ensures

pub put_leaf-requires-in_default : goal.put_leaf-requires-in_default
put_leaf-requires-in_default t c =
    uncut_needs binary32 _ _ c.args.cutter.now.strategy _ c.requires c.if-levels_remaining-slice.false _ (as_split c.try_slice.result)
    c.try_slice.ensures

pub returns-in_default : goal.returns-in_default
returns-in_default t c =
    uncut_gives binary32 _ _ _ _ c.requires c.if-levels_remaining-slice.false _ (as_split c.try_slice.result)
    c.try_slice.ensures _ _ _ _ _ (ap as_split c.in_default.is) c.put_leaf-in_default.ensures

pub slice_bounds-grow-end : goal.slice_bounds-grow-end
slice_bounds-grow-end t c =
    omega (
      arith,
      cut_within binary32 _ _ c.args.cutter.now.strategy _ c.requires c.if-levels_remaining-slice.false _ (as_split c.try_slice.result)
          c.try_slice.ensures _ (ap as_split c.in-Some.is),
    )

pub slice_bounds-grow-end-2 : goal.slice_bounds-grow-end-2
slice_bounds-grow-end-2 t c =
    sym (left_long binary32 _ _ c.args.cutter.now.strategy _ c.requires c.if-levels_remaining-slice.false _ (as_split c.try_slice.result)
    c.try_slice.ensures _ (ap as_split c.in-Some.is))

pub grow-left-requires : goal.grow-left-requires
grow-left-requires t c = (
  omega (arith, some_remaining binary32 _ _ c.args.cutter.now.strategy _ c.requires c.if-levels_remaining-slice.false),
  left_needs binary32 _ _ c.args.cutter.now.strategy _ c.requires c.if-levels_remaining-slice.false _ (as_split c.try_slice.result)
      c.try_slice.ensures _ (ap as_split c.in-Some.is) _ c.try_slice.auto.scratch,
)

pub offset_bounds-slice-cut : goal.offset_bounds-slice-cut
offset_bounds-slice-cut t c =
    omega (
      arith,
      cut_ends binary32 _ _ c.args.cutter.now.strategy _ c.requires c.if-levels_remaining-slice.false _ (as_split c.try_slice.result)
          c.try_slice.ensures _ (ap as_split c.in-Some.is),
    )

pub slice_bounds-grow-count : goal.slice_bounds-grow-count
slice_bounds-grow-count t c =
    cut_within_now binary32 _ _ c.args.cutter.now.strategy _ c.requires c.if-levels_remaining-slice.false _ (as_split c.try_slice.result)
    c.try_slice.ensures _ (ap as_split c.in-Some.is) _ _ _ _ _ _ c.grow-left.ensures

pub slice_bounds-grow-start : goal.slice_bounds-grow-start
slice_bounds-grow-start t c =
    cut_within_now binary32 _ _ c.args.cutter.now.strategy _ c.requires c.if-levels_remaining-slice.false _ (as_split c.try_slice.result)
    c.try_slice.ensures _ (ap as_split c.in-Some.is) _ _ _ _ _ _ c.grow-left.ensures

pub overflow_add-entry : goal.overflow_add-entry
overflow_add-entry t c =
    omega (
      arith,
      cut_ends binary32 _ _ c.args.cutter.now.strategy _ c.requires c.if-levels_remaining-slice.false _ (as_split c.try_slice.result)
          c.try_slice.ensures _ (ap as_split c.in-Some.is),
    )

pub overflow_add-left : goal.overflow_add-left
overflow_add-left t c =
    omega (
      arith,
      left_root_few binary32 _ _ c.args.cutter.now.strategy _ c.requires c.if-levels_remaining-slice.false _ (as_split c.try_slice.result)
          c.try_slice.ensures _ (ap as_split c.in-Some.is) _ _ _ _ _ _ c.grow-left.ensures,
    )

pub grow-right-requires : goal.grow-right-requires
grow-right-requires t c = (
  omega (arith, some_remaining binary32 _ _ c.args.cutter.now.strategy _ c.requires c.if-levels_remaining-slice.false),
  right_needs binary32 _ _ c.args.cutter.now.strategy _ c.requires c.if-levels_remaining-slice.false _ (as_split c.try_slice.result)
      c.try_slice.ensures _ (ap as_split c.in-Some.is) _ _ _ _ _ _ c.grow-left.ensures _
      (c.grow-left.auto.scratch ∙ c.try_slice.auto.scratch),
)

pub put_branch-requires : goal.put_branch-requires
put_branch-requires t c =
    branch_needs binary32 _ _ c.args.cutter.now.strategy _ c.requires c.if-levels_remaining-slice.false _ (as_split c.try_slice.result)
    c.try_slice.ensures _ (ap as_split c.in-Some.is) _ _ _ _ _ _ c.grow-left.ensures _ _ _ _ _ _
    c.grow-right.ensures

pub returns : goal.returns
returns t c =
    branch_gives binary32 _ _ c.args.cutter.now.strategy _ c.requires c.if-levels_remaining-slice.false _ (as_split c.try_slice.result)
    c.try_slice.ensures _ (ap as_split c.in-Some.is) _ _ _ _ _ _ c.grow-left.ensures _ _ _ _ _ _
    c.grow-right.ensures _ _ _ _ _ c.put_branch.ensures
