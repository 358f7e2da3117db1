-- `queries::calls::source_query` meets its contract: one answer a point.
use mathlib.Core.Path.{◌∙◌}
use lib.Ieee.{binary32}
use Rattle.spec_search.specs.Calls.{source_answer}
use Rattle.spec_search.proofs.Calls.{after_one}
use Rattle.queries.proofs.calls.source_query.Goals as goal

pub returns-clause-answers : goal.returns-clause-answers
returns-clause-answers c =
    let a = c.args in
    let d = a.drawing.now in
    c.ask.ensures.answers
    ∙ after_one binary32 (source_answer binary32 d.triangles.now d.order.now d.links.now d.boxes.now d.nodes a.distance) a.points.now _ a.answers.now
