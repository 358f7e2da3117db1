-- `records::entries::put_numbers` meets its contract: a turn puts one entry more (`Puts`).
use Prim.Native.Nat.{◌+◌}
use lib.ListN.{get_or}
use Rattle.spec_tables.proofs.Runs.{Puts}
use Rattle.spec_records.specs.Little.{little}
use Rattle.records.proofs.entries.put_numbers.Given as goal

abbrev pub invariant-loop-entry : goal.invariant-loop-entry
invariant-loop-entry g l = Puts (λ j. little g.row.SIZE (get_or l.entries (l.from + j) 0)) g.row.SIZE l.at l.count l.initial.out l.out l.next l.entry-index
