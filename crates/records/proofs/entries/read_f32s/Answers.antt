-- `records::entries::read_f32s` meets its contract: a turn stores one entry more (`Run`).
use Rattle.spec_tables.proofs.Runs.{run_start, run_store}
use Rattle.records.proofs.entries.read_f32s.Goals as goal

pub loop-i-init : goal.loop-i-init
loop-i-init c = run_start _ 1 _ _ _

pub loop-i-preserved : goal.loop-i-preserved
loop-i-preserved c =
    run_store _ _ _ _ _ _ _ c.requires.1 c.loop-i-test.true c.loop-i.invariant c.f32_at.ensures
