-- `records::entries::put_numbers` meets its contract: a turn puts one entry more (`Puts`).
use mathlib.Core.Path.{ap}
use native.Mathlib.Omega.{arith}
use Rattle.spec_tables.proofs.Tables.{put_same}
use Rattle.spec_tables.proofs.Pieces.{get_d_slice}
use Rattle.spec_tables.proofs.Runs.{puts_start, puts_more}
use Rattle.spec_records.specs.Little.{little}
use Rattle.records.proofs.entries.put_numbers.Goals as goal

pub loop-entry-init : goal.loop-entry-init
loop-entry-init g c = puts_start _ _ _ _ _ c.requires.1

pub loop-entry-preserved : goal.loop-entry-preserved
loop-entry-preserved g c =
    let a = c.args in
    puts_more _ _ _ _ (omega arith) c.loop-entry.invariant
    (put_same (ap (little g.row.SIZE) (get_d_slice 0 a.entries.now a.from _ c.loop-entry.entry-index (omega arith))) c.put_number-next.ensures.put)
    c.put_number-next.ensures.value
