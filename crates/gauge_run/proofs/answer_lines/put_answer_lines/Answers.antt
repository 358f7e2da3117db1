-- `gauge_run::answer_lines::put_answer_lines` meets its contract. The invariant: the first k lines stand one behind the other.
use native.Mathlib.Omega.{arith}
use Rattle.spec_gauge.specs.Lines.{words_line}
use Rattle.spec_gauge.proofs.Lines.{lined_start, lined_more, lined_end}
use Rattle.gauge_run.proofs.answer_lines.put_answer_lines.Goals as goal

pub loop-k-init : goal.loop-k-init
loop-k-init c =
    lined_start (words_line c.args.answers.now) c.args.at c.args.count c.args.out.now (omega arith)

pub loop-k-preserved : goal.loop-k-preserved
loop-k-preserved c =
    lined_more _ _ _ _ _ _ _ _ _ (omega arith) c.loop-k.invariant c.put_answer_line-next.ensures.put
    c.put_answer_line-next.ensures.upper_bound

pub returns : goal.returns
returns c = lined_end _ _ _ _ _ _ _ (omega arith) c.loop-k.invariant
