-- `host_ask::calls::winding_points` meets its contract: the verdict of the winding numbers as a status.
use mathlib.Core.Path.{sym, subst, ◌∙◌}
use native.Mathlib.Omega.{arith}
use lib.ListN.{length}
use Rattle.spec_host.specs.Status.{InPlace}
use Rattle.spec_host.proofs.Requests.{winding_encodable}
use Rattle.host_bytes.proofs.Counted.{counted_verdict}
use Rattle.host_ask.proofs.calls.winding_points.Goals as goal

pub encode-requires : goal.encode-requires
encode-requires c =
    let a = c.args in
    subst InPlace (sym (counted_verdict _ _ _ c.and.ensures ∙ c.winding-wound.ensures.verdict))
    (winding_encodable a.triangles.now a.points.now (length a.windings.now) (omega arith))
