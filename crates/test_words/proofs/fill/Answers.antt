-- `test_words::fill` meets its contract. The invariant: the first i stand in the list.
use native.Mathlib.Omega.{arith}
use Rattle.spec_tables.proofs.Runs.{run_start}
use Rattle.spec_tables.proofs.Stores.{run_store_front, run_whole}
use Rattle.test_words.specs.Words.{words_from}
use Rattle.test_words.proofs.Places.{saturated}
use Rattle.test_words.proofs.fill.Goals as goal

pub loop-i-init : goal.loop-i-init
loop-i-init g c = run_start _ 1 0 _ _

pub loop-i-preserved : goal.loop-i-preserved
loop-i-preserved g c =
    run_store_front _ _ _ _ _ _ (omega arith) (omega (arith, c.loop-i-test.true, c.loop-i.invariant.long)) c.loop-i.invariant
    (rw (c.pattern_at.ensures, c.more.ensures, c.saturating_mul.ensures, saturated) at c.of_pattern.ensures)

pub returns : goal.returns
unfolding words_from
returns g c = run_whole _ _ _ _ (omega (arith, c.loop-i-test.false, c.loop-i.invariant.long)) c.loop-i.invariant
