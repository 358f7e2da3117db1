-- `gauge_run::answer_lines::put_answer_line` meets its contract: the first of the words says which line it is.
use mathlib.Core.Path.{refl}
use native.Mathlib.Omega.{arith}
use Rattle.spec_tables.proofs.Tables.{put_same}
use Rattle.spec_gauge.proofs.Lines.{nothing_words, found_words}
use Rattle.gauge_run.proofs.answer_lines.put_answer_line.Goals as goal

pub returns-then-answers-first-eq0 : goal.returns-then-answers-first-eq0
returns-then-answers-first-eq0 c =
    record {
      put = put_same (nothing_words c.args.answers.now c.args.k c.if-answers-first-eq0.true) c.put_nothing.ensures.put;
      upper_bound = omega arith;
    }

pub returns : goal.returns
returns c =
    record {
      put = put_same (found_words c.args.answers.now c.args.k _ _ c.if-answers-first-eq0.false refl refl) c.put_found.ensures.put;
      upper_bound = c.put_found.ensures.upper_bound;
    }
