-- `queries::calls::ask` meets its contract: a refusal leaves the answers as they were, and otherwise those of each point are written.
use mathlib.Core.Path.{refl, sym, ap}
use lib.Ieee.{binary32}
use lib.ListN.{length}
use Rattle.std.specs.Prelude.{Result}
use Rattle.lists.specs.declared.refusal.Refusal.{Refusal}
use Rattle.lists.proofs.Rows.{handed}
use Rattle.lists.specs.Values.{as_verdict}
use Rattle.spec_lists.specs.Refusals.{refuses}
use Rattle.spec_search.proofs.Calls.{query_passed, as_it_was, is_answered}
use Rattle.walks.specs.Values.{as_query}
use Rattle.queries.proofs.calls.ask.Goals as goal

pub returns-in_err-query_refusal-clause-answers : goal.returns-in_err-query_refusal-clause-answers
returns-in_err-query_refusal-clause-answers c =
    as_it_was binary32 _ _ _ _ _ (ap (λ (r : Result (Unit {0}) Refusal). refuses (as_verdict r)) (handed _ _ c.from_residual.ensures.1))

pub put_answers-requires : goal.put_answers-requires
put_answers-requires c =
    let a = c.args in
    let d = a.drawing.now in
    let passed =
    query_passed (as_query a.query) d.triangles.now d.order.now d.links.now d.boxes.now d.nodes a.points.now a.distance (length a.answers.now)
    (sym c.in_ok-query_refusal.ensures) in
    record { askable = passed.0; points_in_bounds = passed.1.0; bound = passed.1.1 }

pub returns-clause-answers : goal.returns-clause-answers
returns-clause-answers c = is_answered binary32 _ _ _ _ _ _ refl c.put_answers.ensures
