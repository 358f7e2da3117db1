-- `records::entries::read_f32s` meets its contract: a turn stores one entry more (`Run`).
use mathlib.Core.List.{[], ◌∷◌}
use Prim.Native.Nat.{◌+◌, ◌*◌}
use lib.Ieee.{of_bits, binary32}
use Rattle.spec_tables.proofs.Runs.{Run}
use Rattle.spec_records.specs.Little.{little_at}
use Rattle.records.proofs.entries.read_f32s.Given as goal

abbrev pub invariant-loop-i : goal.invariant-loop-i
invariant-loop-i l = Run (λ j. of_bits binary32 (little_at 4 l.bytes (l.start + 4 * j)) ∷ []) l.at l.count l.initial.out l.out l.i
