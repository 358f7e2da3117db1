-- `splits::buckets::Bucket::with_box` meets its contract: what `union_box` ensures.
use Rattle.std.proofs.Common.{◌+◌}
use Rattle.spec_splits.specs.Buckets.{with_box}
use Rattle.splits.proofs.buckets.Bucket.with_box.Goals as goal

pub returns : goal.returns
unfolding with_box
returns c = λ i. record { count = c.args.self.count + 1; bounds = c.union_box.ensures i }
