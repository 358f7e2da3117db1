-- `records::entries::read_numbers` meets its contract: a turn stores one entry more (`Run`).
use Rattle.spec_tables.proofs.Runs.{run_start, run_store}
use Rattle.records.proofs.entries.read_numbers.Goals as goal

pub loop-i-init : goal.loop-i-init
loop-i-init g c = run_start _ 1 _ _ _

pub loop-i-preserved : goal.loop-i-preserved
loop-i-preserved g c =
    run_store _ _ _ _ _ _ _ c.requires.room.1 c.loop-i-test.true c.loop-i.invariant c.number_at.ensures.value
