-- `splits::buckets::Buckets::empty` meets its contract: what `Bucket::empty` ensures, twelve times.
use Rattle.std.proofs.Common.{replicate, ap}
use Rattle.spec_splits.specs.Buckets.{Bucket, empty_buckets}
use Rattle.splits.proofs.buckets.Buckets.empty.Goals as goal

pub returns : goal.returns
unfolding empty_buckets
returns c = ap (λ (b : Bucket). replicate 12 b) c.empty-none.ensures
