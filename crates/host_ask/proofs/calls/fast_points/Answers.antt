-- `host_ask::calls::fast_points` meets its contract: the verdict of the winding numbers by dipoles as a status.
use mathlib.Core.Path.{sym, subst, ◌∙◌}
use native.Mathlib.Omega.{arith}
use lib.ListN.{length}
use Rattle.spec_host.specs.Status.{InPlace}
use Rattle.spec_host.proofs.Requests.{fast_encodable}
use Rattle.host_bytes.proofs.Counted.{counted_verdict}
use Rattle.host_ask.proofs.calls.fast_points.Goals as goal

pub encode-requires : goal.encode-requires
encode-requires c =
    let a = c.args in
    subst InPlace (sym (counted_verdict _ _ _ c.and.ensures ∙ c.fast_winding-wound.ensures.verdict))
    (fast_encodable a.triangles.now a.order.now a.links.now a.boxes.now a.nodes a.sums.now a.points.now a.accuracy (length a.windings.now)
    (omega (arith, c.well_formed)))
