-- `splits::buckets::Bucket::empty` meets its contract: what `Box3::empty` ensures.
use Rattle.spec_splits.specs.Buckets.{empty_bucket}
use Rattle.splits.proofs.buckets.Bucket.empty.Goals as goal

pub returns : goal.returns
unfolding empty_bucket
returns c = λ i. record { count = 0; bounds = c.empty.ensures i }
