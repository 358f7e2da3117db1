-- `records::entries::put_f32s` meets its contract: a turn puts one entry more (`Puts`).
use mathlib.Core.Path.{ap, ◌∙◌}
use native.Mathlib.Omega.{arith}
use lib.Ieee.{nan, to_bits, binary32}
use Rattle.spec_tables.proofs.Tables.{put_same}
use Rattle.spec_tables.proofs.Pieces.{get_d_slice}
use Rattle.spec_tables.proofs.Runs.{puts_start, puts_more}
use Rattle.spec_records.specs.Little.{little}
use Rattle.records.proofs.entries.put_f32s.Goals as goal

pub loop-entry-init : goal.loop-entry-init
loop-entry-init c = puts_start _ _ _ _ _ c.requires.1

pub loop-entry-preserved : goal.loop-entry-preserved
loop-entry-preserved c =
    let a = c.args in
    puts_more _ _ _ _ (omega arith) c.loop-entry.invariant
    (put_same (ap (little 4) (c.bits_of.ensures
    ∙ ap (to_bits binary32) (get_d_slice nan a.entries.now a.from _ c.loop-entry.entry-index (omega arith)))) c.put_u32-next.ensures.put)
    c.put_u32-next.ensures.value
