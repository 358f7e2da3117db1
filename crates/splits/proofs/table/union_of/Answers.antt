-- `splits::table::union_of` meets its contract. The invariant: the boxes that remain, joined to the box so far, give the union of the whole slice.
use Rattle.std.proofs.Common.{drop, ap, ◌∙◌}
use mathlib.Core.List.{foldl}
use lib.Ieee.{binary32}
use Rattle.spec_shapes.specs.Boxes.{Box, union}
use Rattle.shapes.specs.Values.{as_box}
use Rattle.spec_splits.specs.Splits.{box_in, boxes_in}
use Rattle.spec_splits.proofs.Table.{union_from_first, to_the_end}
use Rattle.spec_splits.proofs.Turns.{fold_on_named}
use Rattle.splits.proofs.table.union_of.Goals as goal

pub loop-t-init : goal.loop-t-init
loop-t-init c =
    let args = c.args in
    rw (to_the_end 1 args.slice.now)
    (ap (λ (b : Box). foldl union b (boxes_in args.bounds.now (drop 1 args.slice.now))) c.box_at-joined.ensures
    ∙ union_from_first binary32 (box_in args.bounds.now) args.slice.now c.requires.slice_nonzero)

pub loop-t-preserved : goal.loop-t-preserved
loop-t-preserved c =
    let args = c.args in
    let loop = c.loop-t in
    fold_on_named union (box_in args.bounds.now) _ loop.t-index (as_box loop.joined) _ (as_box c.union_box-joined.result)
    c.loop-t-test.true
    (c.union_box-joined.ensures ∙ ap (union (as_box loop.joined)) c.box_at.ensures) loop.invariant
