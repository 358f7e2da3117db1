-- `splits::bucketing::fill` meets its contract.
-- The invariant: the boxes that remain, put into the buckets as they are, give what the whole slice gives, and no count exceeds the boxes put.
use Rattle.std.proofs.Common.{arith}
use lib.Ieee.{binary32}
use Rattle.shapes.specs.Values.{as_box}
use Rattle.spec_splits.specs.Splits.{box_in}
use Rattle.spec_splits.proofs.Buckets.{filling_starts, filling_small, filling_goes_on, filling_ends}
use Rattle.spec_splits.proofs.Area.{between_below}
use Rattle.splits.specs.Values.{as_bucket, bucket_in}
use Rattle.splits.proofs.Stored.{no_bucket}
use Rattle.splits.proofs.bucketing.fill.Goals as goal

pub loop-t-init : goal.loop-t-init
loop-t-init c =
    let args = c.args in
    filling_starts as_bucket binary32 (bucket_in args.within) (box_in args.bounds.now)
    args.slice.now c.empty-buckets.result.each c.empty-buckets.ensures

pub offset_bounds-buckets-k : goal.offset_bounds-buckets-k
offset_bounds-buckets-k c = omega (arith, between_below binary32 _ _ _ _ c.bucket_of-k.result c.bucket_of-k.ensures)

pub bounds-buckets-k : goal.bounds-buckets-k
bounds-buckets-k c = between_below binary32 _ _ _ _ c.bucket_of-k.result c.bucket_of-k.ensures

pub with_box-requires : goal.with_box-requires
with_box-requires c =
    let args = c.args in
    let loop = c.loop-t in
    filling_small as_bucket binary32 (bucket_in args.within) (box_in args.bounds.now)
    args.slice.now loop.buckets.each loop.t-index c.bucket_of-k.result no_bucket loop.invariant
    (between_below binary32 _ _ _ _ c.bucket_of-k.result c.bucket_of-k.ensures) (omega arith) c.requires.slice_len_bound

pub offset_bounds-buckets-k-in-loop-t : goal.offset_bounds-buckets-k-in-loop-t
offset_bounds-buckets-k-in-loop-t c =
    omega (arith, between_below binary32 _ _ _ _ c.bucket_of-k.result c.bucket_of-k.ensures)

pub bounds-buckets-k-in-loop-t : goal.bounds-buckets-k-in-loop-t
bounds-buckets-k-in-loop-t c =
    between_below binary32 _ _ _ _ c.bucket_of-k.result c.bucket_of-k.ensures

pub loop-t-preserved : goal.loop-t-preserved
loop-t-preserved c =
    let args = c.args in
    let loop = c.loop-t in
    filling_goes_on as_bucket binary32 (bucket_in args.within) (box_in args.bounds.now)
    args.slice.now loop.buckets.each loop.t-index c.bucket_of-k.result no_bucket loop.invariant
    (between_below binary32 _ _ _ _ c.bucket_of-k.result c.bucket_of-k.ensures) c.with_box.result
    (as_box c.box_at.result) (omega arith) c.bucket_of-k.ensures c.with_box.ensures c.box_at.ensures

pub returns : goal.returns
returns c =
    let args = c.args in
    let loop = c.loop-t in
    filling_ends as_bucket binary32 (bucket_in args.within) (box_in args.bounds.now)
    args.slice.now loop.buckets.each loop.t-index (omega arith) loop.invariant
