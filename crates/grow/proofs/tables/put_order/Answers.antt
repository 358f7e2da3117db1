-- `grow::tables::put_order` meets its contract: a turn stores one number behind those that stand there.
use mathlib.Core.Path.{refl, ap, ◌∙◌}
use mathlib.Core.List.{List}
use Prim.Native.Nat.{ℕ}
use Rattle.spec_tables.specs.Tables.{overwrite}
use Rattle.spec_tables.proofs.Runs.{run_start, run_end}
use Rattle.spec_build.proofs.Numbering.{range_concat_map}
use Rattle.spec_tables.proofs.Stores.{run_store_front}
use Rattle.grow.proofs.tables.put_order.Goals as goal

pub loop-number-init : goal.loop-number-init
loop-number-init c = run_start _ 1 0 _ _

pub loop-number-preserved : goal.loop-number-preserved
loop-number-preserved c = run_store_front (λ (k : ℕ). k) _ _ _ _ _ c.requires.1 c.loop-number-test.true c.loop-number.invariant refl

pub returns : goal.returns
returns c =
    run_end _ 0 _ _ _ _ c.loop-number-test.false c.loop-number.invariant
    ∙ ap (λ (l : List ℕ). overwrite 0 l c.args.order.now) (range_concat_map c.args.count)
