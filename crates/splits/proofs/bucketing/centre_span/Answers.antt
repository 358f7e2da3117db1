-- `splits::bucketing::centre_span` meets its contract.
-- The invariant: from the two ends so far, the centres that remain give the ends of the whole slice.
use Rattle.std.proofs.Common.{◌≡◌, ap, ◌∙◌, arith}
use lib.Ieee.{binary32}
use Rattle.spec_numbers.specs.Values as Values
use Rattle.spec_numbers.specs.Hold.{smaller, larger}
use Rattle.spec_shapes.specs.Boxes.{Box, empty}
use Rattle.shapes.specs.Values.{as_axis}
use Rattle.spec_splits.specs.Splits.{box_in, boxes_in}
use Rattle.spec_splits.proofs.Area.{lower_end_lem, upper_end_lem, lower_end, upper_end}
use Rattle.spec_splits.proofs.Turns.{fold_on_named, fold_ended_named}
use Rattle.splits.proofs.bucketing.centre_span.Goals as goal

pub loop-t-init : goal.loop-t-init
unfolding empty
loop-t-init c =
    let lo : c.empty-none.result.min.x ≡ Values.largest binary32 = ap (λ (b : Box). b.min.x) c.empty-none.ensures in
    let hi : c.empty-none.result.max.x ≡ Values.least binary32 = ap (λ (b : Box). b.max.x) c.empty-none.ensures in
    (rw lo, rw hi)

pub loop-t-preserved : goal.loop-t-preserved
unfolding lower_end_lem upper_end_lem
loop-t-preserved c =
    let args = c.args in
    let loop = c.loop-t in (
      fold_on_named (lower_end_lem binary32 (as_axis args.axis)) (box_in args.bounds.now) args.slice.now loop.t-index loop.lo _ c.min2-lo.result
          (omega arith) (c.min2-lo.ensures ∙ ap (smaller loop.lo) c.centre_on-centre.ensures) loop.invariant.0,
      fold_on_named (upper_end_lem binary32 (as_axis args.axis)) (box_in args.bounds.now) args.slice.now loop.t-index loop.hi _ c.max2-hi.result
          (omega arith) (c.max2-hi.ensures ∙ ap (larger loop.hi) c.centre_on-centre.ensures) loop.invariant.1,
    )

pub returns-clause-ends : goal.returns-clause-ends
returns-clause-ends c =
    let args = c.args in
    let loop = c.loop-t in
    let boxes = boxes_in args.bounds.now args.slice.now in
    record {
      lo_is =
          fold_ended_named (lower_end_lem binary32 (as_axis args.axis)) (box_in args.bounds.now) args.slice.now loop.t-index loop.lo _ (omega arith)
          loop.invariant.0 ∙ lower_end binary32 (as_axis args.axis) boxes;
      hi_is =
          fold_ended_named (upper_end_lem binary32 (as_axis args.axis)) (box_in args.bounds.now) args.slice.now loop.t-index loop.hi _ (omega arith)
          loop.invariant.1 ∙ upper_end binary32 (as_axis args.axis) boxes;
    }
