-- `printing::numbers::put_hex` meets its contract: eight digits.
use Rattle.spec_printing.specs.Printed.{hex}
use Rattle.printing.proofs.numbers.put_hex.Goals as goal

pub returns-clause-put : goal.returns-clause-put
unfolding hex
returns-clause-put c = c.put_digits.ensures.put
