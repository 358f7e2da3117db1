-- `printing::numbers::digit_of` meets its contract, by the two cases of `digit`.
use native.Mathlib.Omega.{arith}
use Rattle.spec_printing.proofs.Numbers.{digit_low, digit_high}
use Rattle.printing.proofs.numbers.digit_of.Goals as goal

pub returns-then-d-lt10 : goal.returns-then-d-lt10
returns-then-d-lt10 c = omega (arith, digit_low c.args.d c.if-d-lt10.true)

pub returns-else-d-lt10 : goal.returns-else-d-lt10
returns-else-d-lt10 c = omega (arith, digit_high c.args.d c.if-d-lt10.false)
