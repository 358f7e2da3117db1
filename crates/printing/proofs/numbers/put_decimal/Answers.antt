-- `printing::numbers::put_decimal` meets its contract: as many digits as the number has.
use mathlib.Core.Path.{ap}
use Prim.Native.Nat.{ℕ}
use Rattle.spec_tables.proofs.Tables.{put_same}
use Rattle.spec_printing.specs.Printed.{digits, decimal}
use Rattle.printing.proofs.numbers.put_decimal.Goals as goal

pub returns-clause-put : goal.returns-clause-put
unfolding decimal
returns-clause-put c = put_same (ap (λ (k : ℕ). digits 10 k c.args.n) c.width_of.ensures.0) c.put_digits.ensures.put
