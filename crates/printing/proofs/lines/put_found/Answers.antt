-- `printing::lines::put_found` meets its contract: its parts, one behind the other.
use Rattle.spec_tables.proofs.Tables.{put_then}
use Rattle.spec_printing.specs.Printed.{found_word, found_line}
use Rattle.printing.proofs.lines.put_found.Goals as goal

pub returns-clause-put : goal.returns-clause-put
unfolding found_word found_line
returns-clause-put c =
    let front = put_then (put_then c.put_decimal-a.ensures.put c.put_named-b.ensures.put)
    c.put_spaced_hex-c.ensures.put in
    put_then (put_then (put_then (put_then (put_then front c.put_spaced_hex-d.ensures.put)
    c.put_spaced_hex-e.ensures.put) c.put_spaced_hex-f.ensures.put) c.put_spaced_decimal-g.ensures.put) c.put_byte.ensures.put
