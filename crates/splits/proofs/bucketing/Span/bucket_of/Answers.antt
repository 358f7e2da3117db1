-- `splits::bucketing::Span::bucket_of` meets its contract: what each call ensures, put in.
use Rattle.spec_splits.specs.Area.{bucket_between}
use Rattle.splits.proofs.bucketing.Span.bucket_of.Goals as goal

pub returns : goal.returns
unfolding bucket_between
returns c = rw (c.bucket_for.ensures, c.offset_on.ensures, c.centre_on.ensures)
