-- `test_angles::words::numbers_from` meets its contract. The invariant: the first i numbers stand in the array.
use Rattle.std.proofs.Common.{arith}
use Rattle.spec_tables.proofs.Runs.{run_start}
use Rattle.spec_tables.proofs.Stores.{run_store_front, run_whole}
use Rattle.test_angles.specs.Words.{numbers_from}
use Rattle.test_angles.proofs.words.numbers_from.Goals as goal

pub loop-i-init : goal.loop-i-init
loop-i-init c = run_start _ 1 0 720 _

pub loop-i-preserved : goal.loop-i-preserved
loop-i-preserved c =
    run_store_front _ 720 _ _ _ _ (omega arith) c.loop-i-test.true c.loop-i.invariant
    (rw c.place.ensures at c.number_at.ensures)

pub returns : goal.returns
unfolding numbers_from
returns c = record { value = run_whole _ _ _ _ c.loop-i-test.false c.loop-i.invariant; result_len = c.loop-i.invariant.long }
