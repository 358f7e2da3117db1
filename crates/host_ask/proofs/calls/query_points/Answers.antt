-- `host_ask::calls::query_points` meets its contract: the verdict of the query as a status.
use mathlib.Core.Path.{sym, subst, ◌∙◌}
use native.Mathlib.Omega.{arith}
use lib.ListN.{length}
use Rattle.walks.specs.Values.{as_query}
use Rattle.spec_host.specs.Status.{InPlace}
use Rattle.spec_host.proofs.Requests.{query_encodable}
use Rattle.host_bytes.proofs.Counted.{counted_verdict}
use Rattle.host_ask.proofs.calls.query_points.Goals as goal

pub encode-requires : goal.encode-requires
encode-requires c =
    let a = c.args in
    let d = a.drawing.now in
    subst InPlace (sym (counted_verdict _ _ _ c.and.ensures ∙ c.ask-asked.ensures.verdict))
    (query_encodable d.triangles.now d.order.now d.links.now d.boxes.now d.nodes (as_query a.query) a.points.now a.distance
    (length a.answers.now) (omega (arith, c.well_formed)))
