-- `records::numbers::put_number` meets its contract: a turn stores one byte more (`Run`).
use mathlib.Core.Path.{◌≡◌}
use mathlib.Core.List.{[], ◌∷◌}
use Prim.Native.Nat.{◌/◌, ◌%◌, ◌^◌}
use Rattle.spec_tables.proofs.Runs.{Run}
use Rattle.records.proofs.numbers.put_number.Given as goal

abbrev pub invariant-loop-k : goal.invariant-loop-k
invariant-loop-k g l = record {
  run : Run (λ j. l.fn.n / 256 ^ j % 256 ∷ []) l.at g.row.SIZE l.initial.out l.out l.k;
  left : l.rest ≡ l.fn.n / 256 ^ l.k;
}
