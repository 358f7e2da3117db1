-- `printing::lines::put_counts` meets its contract: its parts, one behind the other.
use Rattle.spec_tables.proofs.Tables.{put_then}
use Rattle.spec_printing.specs.Printed.{triangles_word, nodes_word, depth_word, counts_line}
use Rattle.printing.proofs.lines.put_counts.Goals as goal

pub returns-clause-put : goal.returns-clause-put
unfolding triangles_word nodes_word depth_word counts_line
returns-clause-put c =
    put_then (put_then (put_then c.put_named-a.ensures.put c.put_named-b.ensures.put) c.put_named-c.ensures.put)
    c.put_byte.ensures.put
