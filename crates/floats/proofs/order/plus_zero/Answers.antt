-- `floats::order::plus_zero` meets its contract: x + 0 is x for every x of the format but -0. The pattern of 0.0 is 0, and `well_formed` says that x fits.
use lib.Ieee.{binary32, of_bits}
use Rattle.spec_numbers.proofs.Tests.{passed}
use Rattle.spec_numbers.proofs.Exact.{plus_zero_lem}
use Rattle.floats.proofs.order.plus_zero.Goals as goal

pub returns : goal.returns
unfolding of_bits
returns c = plus_zero_lem binary32 c.args.x (passed c.well_formed.0.1)
