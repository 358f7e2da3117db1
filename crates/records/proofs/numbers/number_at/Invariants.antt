-- `records::numbers::number_at` meets its contract. The invariant: the number of the bytes so far.
use mathlib.Core.Path.{◌≡◌}
use Rattle.spec_records.specs.Little.{little_at}
use Rattle.records.proofs.numbers.number_at.Given as goal

abbrev pub invariant-loop-k : goal.invariant-loop-k
invariant-loop-k g l = l.n ≡ little_at l.k l.bytes l.at
