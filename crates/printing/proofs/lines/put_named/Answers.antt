-- `printing::lines::put_named` meets its contract: the word, and the number behind it.
use Rattle.spec_tables.proofs.Tables.{put_then}
use Rattle.spec_printing.specs.Printed.{named}
use Rattle.printing.proofs.lines.put_named.Goals as goal

pub returns-clause-put : goal.returns-clause-put
unfolding named
returns-clause-put c = put_then c.put_word-next.ensures c.put_spaced_decimal.ensures.put
