-- `splits::median::plane_between` meets its contract: what each call ensures, put in.
use lib.Ieee.{of_bits}
use Rattle.spec_splits.specs.Median.{plane_between}
use Rattle.splits.proofs.median.plane_between.Goals as goal

pub returns : goal.returns
unfolding plane_between of_bits
returns c = rw (c.unit_of.ensures, c.centre_on-2.ensures, c.centre_on.ensures)
