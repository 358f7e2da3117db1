-- `host_ask::calls::sums_lists` meets its contract: the verdict of the call that makes the dipoles, as a status.
use mathlib.Core.Path.{sym, subst, ◌∙◌}
use lib.ListN.{length}
use Rattle.spec_host.specs.Status.{InPlace}
use Rattle.spec_host.proofs.Requests.{sums_encodable}
use Rattle.host_bytes.proofs.Counted.{counted_verdict}
use Rattle.host_ask.proofs.calls.sums_lists.Goals as goal

pub encode-requires : goal.encode-requires
encode-requires c =
    let a = c.args in
    subst InPlace (sym (counted_verdict _ _ _ c.and.ensures ∙ c.node_sums-summed.ensures.verdict))
    (sums_encodable a.triangles.now a.order.now a.links.now a.boxes.now a.nodes (length a.sums.now))
