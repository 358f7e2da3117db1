-- `host_ask::point_queries::ask` meets its contract: a refusal leaves the bytes as they were, and otherwise each answer is written.
use mathlib.Core.Path.{refl, sym, ap}
use lib.ListN.{length}
use Rattle.std.specs.Prelude.{Result}
use Rattle.lists.specs.declared.refusal.Refusal.{Refusal}
use Rattle.lists.specs.Values.{as_verdict}
use Rattle.lists.proofs.Rows.{handed, handed_on}
use Rattle.spec_lists.specs.Refusals.{refuses}
use Rattle.spec_host.proofs.PointBytes.{as_it_was, as_written}
use Rattle.spec_host.proofs.Requests.{query_passed}
use Rattle.walks.specs.Values.{as_query}
use Rattle.host_ask.proofs.point_queries.ask.Goals as goal

pub returns-in_err-query_refusal : goal.returns-in_err-query_refusal
returns-in_err-query_refusal c = record {
  verdict = handed_on _ _ _ c.from_residual.ensures.1 c.in_err-query_refusal.ensures;
  answers = as_it_was _ _ _ (ap (λ (r : Result (Unit {0}) Refusal). refuses (as_verdict r)) (handed _ _ c.from_residual.ensures.1));
}

pub put_answers-requires : goal.put_answers-requires
put_answers-requires c =
    let a = c.args in
    let d = a.drawing.now in
    let passed =
    query_passed d.triangles.now d.order.now d.links.now d.boxes.now d.nodes (as_query a.query) a.points.now a.distance
    (length a.answers.now) (sym c.in_ok-query_refusal.ensures) in
    record {
      searchable = passed.0;
      good_points = passed.1.0;
      points_in_bounds = passed.1.1.0;
      good_distance = passed.1.1.1.0;
      bound = passed.1.1.1.1;
    }

pub returns : goal.returns
returns c = record { verdict = c.in_ok-query_refusal.ensures; answers = as_written _ _ _ _ refl c.put_answers.ensures }
