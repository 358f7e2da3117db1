-- `floats::order::absolute` meets its contract: below zero the opposite of x, and otherwise x + 0, which is x but for the sign of a zero.
use Rattle.std.proofs.Common.{◌∙◌}
use lib.Ieee.{binary32, of_bits}
use Rattle.spec_numbers.proofs.Tests.{passed, failed}
use Rattle.spec_numbers.proofs.Exact.{plus_zero_lem}
use Rattle.spec_numbers.proofs.Absolute.{below_zero_turns, otherwise_plus_zero}
use Rattle.floats.proofs.order.absolute.Goals as goal

pub returns-then-x : goal.returns-then-x
unfolding of_bits
returns-then-x c = below_zero_turns c.args.x (passed c.if-x.true)

pub returns-else-x : goal.returns-else-x
unfolding of_bits
returns-else-x c =
    let x = c.args.x in
    let fit = passed c.well_formed.0.1 in
    plus_zero_lem binary32 x fit ∙ otherwise_plus_zero binary32 x fit (failed c.if-x.false)
