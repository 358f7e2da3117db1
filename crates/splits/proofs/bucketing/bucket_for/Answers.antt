-- `splits::bucketing::bucket_for` meets its contract: what `cut` and `min` ensure.
use lib.Ieee.{of_bits}
use Rattle.spec_splits.specs.Area.{bucket_for}
use Rattle.splits.proofs.bucketing.bucket_for.Goals as goal

pub returns : goal.returns
unfolding bucket_for of_bits
returns c = rw (c.min.ensures, c.cut.ensures)
