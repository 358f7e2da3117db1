-- `printing::numbers::put_digits` meets its contract: a turn stores one digit more, right in front of the others (`Backwards`).
use Rattle.spec_printing.proofs.Backwards.{Backwards}
use Rattle.printing.proofs.numbers.put_digits.Given as goal

abbrev pub invariant-loop-k : goal.invariant-loop-k
invariant-loop-k l = Backwards l.base l.at l.count l.n l.initial.out l.out l.k l.rest
