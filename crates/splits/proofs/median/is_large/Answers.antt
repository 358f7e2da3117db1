-- `splits::median::is_large` meets its contract: what each call ensures, put in.
use lib.Ieee.{of_bits, div}
use Rattle.spec_splits.specs.Median.{is_large}
use Rattle.splits.proofs.median.is_large.Goals as goal

pub returns : goal.returns
unfolding is_large of_bits div
returns c = rw (c.volume-2.ensures, c.volume.ensures, c.union_of.ensures)
