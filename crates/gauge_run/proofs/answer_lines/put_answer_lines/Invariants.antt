-- `gauge_run::answer_lines::put_answer_lines` meets its contract. The invariant: the first k lines stand one behind the other.
use Rattle.spec_gauge.specs.Lines.{words_line}
use Rattle.spec_gauge.proofs.Lines.{Lined}
use Rattle.gauge_run.proofs.answer_lines.put_answer_lines.Given as goal

abbrev pub invariant-loop-k : goal.invariant-loop-k
invariant-loop-k l = Lined (words_line l.answers) l.at l.count l.initial.out l.out l.next l.k
