-- `printing::lines::put_spaced_decimal` meets its contract: a space, and the number behind it.
use Rattle.spec_tables.proofs.Tables.{put_then}
use Rattle.spec_printing.specs.Printed.{spaced_decimal}
use Rattle.printing.proofs.lines.put_spaced_decimal.Goals as goal

pub returns-clause-put : goal.returns-clause-put
unfolding spaced_decimal
returns-clause-put c = put_then c.put_byte-next.ensures.put c.put_decimal.ensures.put
