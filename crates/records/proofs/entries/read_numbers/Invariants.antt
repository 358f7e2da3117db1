-- `records::entries::read_numbers` meets its contract: a turn stores one entry more (`Run`).
use mathlib.Core.List.{[], ◌∷◌}
use Prim.Native.Nat.{◌+◌, ◌*◌}
use Rattle.spec_tables.proofs.Runs.{Run}
use Rattle.spec_records.specs.Little.{little_at}
use Rattle.records.proofs.entries.read_numbers.Given as goal

abbrev pub invariant-loop-i : goal.invariant-loop-i
invariant-loop-i g l = Run (λ j. little_at g.row.SIZE l.bytes (l.start + g.row.SIZE * j) ∷ []) l.at l.count l.initial.out l.out l.i
