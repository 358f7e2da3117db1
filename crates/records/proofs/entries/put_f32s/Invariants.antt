-- `records::entries::put_f32s` meets its contract: a turn puts one entry more (`Puts`).
use Prim.Native.Nat.{◌+◌}
use lib.ListN.{get_or}
use lib.Ieee.{nan, to_bits, binary32}
use Rattle.spec_tables.proofs.Runs.{Puts}
use Rattle.spec_records.specs.Little.{little}
use Rattle.records.proofs.entries.put_f32s.Given as goal

abbrev pub invariant-loop-entry : goal.invariant-loop-entry
invariant-loop-entry l =
    Puts (λ j. little 4 (to_bits binary32 (get_or l.entries (l.from + j) nan))) 4 l.at l.count l.initial.out l.out l.next l.entry-index
