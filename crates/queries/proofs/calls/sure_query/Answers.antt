-- `queries::calls::sure_query` meets its contract: one answer a point.
use mathlib.Core.Path.{◌∙◌}
use lib.Ieee.{binary32}
use Rattle.spec_search.specs.Rules.{rule_of}
use Rattle.spec_search.specs.Calls.{sure_answer}
use Rattle.spec_search.proofs.Calls.{after_one}
use Rattle.queries.proofs.calls.sure_query.Goals as goal

pub returns-clause-answers : goal.returns-clause-answers
returns-clause-answers c =
    let a = c.args in
    c.ask.ensures.answers ∙ after_one binary32 (sure_answer binary32 (rule_of a.rule) a.drawing.now.triangles.now a.distance) a.points.now _ a.answers.now
