-- `host_ask::calls::check_lists` meets its contract: the verdict of the check as a status.
use mathlib.Core.Path.{sym, subst, ◌∙◌}
use Rattle.spec_host.specs.Status.{InPlace}
use Rattle.spec_host.proofs.Requests.{check_encodable}
use Rattle.host_bytes.proofs.Counted.{counted_verdict}
use Rattle.host_ask.proofs.calls.check_lists.Goals as goal

pub encode-requires : goal.encode-requires
encode-requires c =
    let a = c.args in
    subst InPlace (sym (counted_verdict _ _ _ c.and.ensures ∙ c.check-checked.ensures))
    (check_encodable a.triangles.now a.order.now a.links.now a.boxes.now a.nodes)
