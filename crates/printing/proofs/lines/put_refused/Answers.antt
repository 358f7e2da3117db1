-- `printing::lines::put_refused` meets its contract: its parts, one behind the other.
use Rattle.spec_tables.proofs.Tables.{put_then}
use Rattle.spec_printing.specs.Printed.{refused_word, refused_line}
use Rattle.printing.proofs.lines.put_refused.Goals as goal

pub returns-clause-put : goal.returns-clause-put
unfolding refused_word refused_line
returns-clause-put c =
    put_then (put_then c.put_named-a.ensures.put c.put_spaced_decimal-b.ensures.put) c.put_byte.ensures.put
