-- `records::numbers::put_number` meets its contract: a turn stores one byte more (`Run`).
use mathlib.Core.Path.{sym, ap, ◌∙◌}
use Prim.Native.Nat.{ℕ, ◌/◌, ◌%◌, ◌^◌}
use native.Mathlib.Nat.{div-one}
use Rattle.spec_tables.proofs.Runs.{run_start, run_store}
use Rattle.records.proofs.Little.{rest_more, bytes_end}
use Rattle.records.proofs.numbers.put_number.Goals as goal

pub loop-k-init : goal.loop-k-init
loop-k-init g c = record { run = run_start _ 1 _ _ _; left = sym (div-one c.args.n) }

pub loop-k-preserved : goal.loop-k-preserved
loop-k-preserved g c =
    record {
      run = run_store (λ j. c.args.n / 256 ^ j % 256) _ _ _ _ _ _ c.requires c.loop-k-test.true c.loop-k.invariant.run
          (ap (λ (r : ℕ). r % 256) c.loop-k.invariant.left);
      left = ap (λ (r : ℕ). r / 256) c.loop-k.invariant.left ∙ rest_more c.args.n c.loop-k.k;
    }

pub returns-clause-put : goal.returns-clause-put
returns-clause-put g c =
    bytes_end c.args.n _ _ _ _ _ c.requires c.loop-k-test.false c.loop-k.invariant.run
