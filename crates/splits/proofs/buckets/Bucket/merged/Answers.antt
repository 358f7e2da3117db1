-- `splits::buckets::Bucket::merged` meets its contract: what `union_box` ensures.
use Rattle.std.proofs.Common.{◌+◌}
use Rattle.spec_splits.specs.Buckets.{merged}
use Rattle.splits.proofs.buckets.Bucket.merged.Goals as goal

pub returns : goal.returns
unfolding merged
returns c =
    λ i. record { count = c.args.self.count + c.args.other.count; bounds = c.union_box.ensures i }
