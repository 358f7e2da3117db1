-- `grow::tables::put_keys` meets its contract: a turn stores one centre behind those that stand there.
use lib.Ieee.{binary32}
use Rattle.shapes.specs.Values.{as_axis}
use Rattle.spec_tables.proofs.Runs.{run_start, run_end}
use Rattle.spec_splits.specs.Splits.{box_in}
use Rattle.spec_build.specs.Tries.{centre_on}
use Rattle.spec_tables.proofs.Stores.{run_store_front}
use Rattle.grow.proofs.tables.put_keys.Goals as goal

pub loop-t-init : goal.loop-t-init
loop-t-init c = run_start _ 1 0 _ _

pub loop-t-preserved : goal.loop-t-preserved
loop-t-preserved c =
    run_store_front (centre_on binary32 (box_in c.args.bounds.now) (as_axis c.args.axis)) _ _ _ _ _ c.requires.room
    c.loop-t-test.true c.loop-t.invariant c.centre_on.ensures

pub returns : goal.returns
returns c = run_end _ 0 _ _ _ _ c.loop-t-test.false c.loop-t.invariant
