-- `host_ask::point_windings::winding_refusal` meets its contract: three tests in a row.
use Rattle.lists.proofs.Rows.{handed_on, refused_first, passed_first, last}
use Rattle.spec_host.specs.Requests.{winding_bytes_refusal}
use Rattle.host_ask.proofs.point_windings.winding_refusal.Goals as goal

pub returns-in_err-triangles_refusal : goal.returns-in_err-triangles_refusal
unfolding winding_bytes_refusal
returns-in_err-triangles_refusal c = handed_on _ _ _ c.from_residual.ensures.1 (refused_first _ _ _ _ c.in_err-triangles_refusal.ensures)

pub returns-in_err-room_refusal : goal.returns-in_err-room_refusal
unfolding winding_bytes_refusal
returns-in_err-room_refusal c =
    handed_on _ _ _ c.from_residual-in_err-room_refusal.ensures.1
    (passed_first _ _ _ c.in_ok-triangles_refusal.ensures (refused_first _ _ _ _ c.in_err-room_refusal.ensures))

pub returns : goal.returns
unfolding winding_bytes_refusal
returns c =
    passed_first _ _ _ c.in_ok-triangles_refusal.ensures
    (passed_first _ _ _ c.in_ok-room_refusal.ensures (last _ _ c.point_bytes_refusal.ensures))
