-- `splits::bucketing::fill` meets its contract.
-- The invariant: the boxes that remain, put into the buckets as they are, give what the whole slice gives, and no count exceeds the boxes put.
use lib.Ieee.{binary32}
use Rattle.spec_splits.specs.Splits.{box_in}
use Rattle.spec_splits.proofs.Buckets.{Filling}
use Rattle.splits.specs.Values.{as_bucket, bucket_in}
use Rattle.splits.proofs.bucketing.fill.Given as goal

abbrev pub invariant-loop-t : goal.invariant-loop-t
invariant-loop-t l =
    Filling as_bucket binary32 (bucket_in l.within) (box_in l.bounds) l.slice l.buckets.each l.t-index
