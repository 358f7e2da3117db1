-- `printing::lines::put_nothing` meets its contract: its parts, one behind the other.
use Rattle.spec_tables.proofs.Tables.{put_then}
use Rattle.spec_printing.specs.Printed.{nothing_word, nothing_line}
use Rattle.printing.proofs.lines.put_nothing.Goals as goal

pub returns-clause-put : goal.returns-clause-put
unfolding nothing_word nothing_line
returns-clause-put c =
    put_then (put_then c.put_decimal-a.ensures.put c.put_word-b.ensures) c.put_byte.ensures.put
