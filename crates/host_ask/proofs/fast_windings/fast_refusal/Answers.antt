-- `host_ask::fast_windings::fast_refusal` meets its contract: three tests and then, for triangles that passed, three more.
use mathlib.Core.Path.{sym}
use Rattle.lists.proofs.Rows.{handed_on, refused_first, passed_first, last}
use Rattle.spec_lists.proofs.Passed.{triangles_passed}
use Rattle.spec_host.specs.Requests.{fast_bytes_refusal}
use Rattle.host_ask.proofs.fast_windings.fast_refusal.Goals as goal

pub returns-in_err-triangles_refusal : goal.returns-in_err-triangles_refusal
unfolding fast_bytes_refusal
returns-in_err-triangles_refusal c = handed_on _ _ _ c.from_residual.ensures.1 (refused_first _ _ _ _ c.in_err-triangles_refusal.ensures)

pub returns-in_err-room_refusal : goal.returns-in_err-room_refusal
unfolding fast_bytes_refusal
returns-in_err-room_refusal c =
    handed_on _ _ _ c.from_residual-in_err-room_refusal.ensures.1
    (passed_first _ _ _ c.in_ok-triangles_refusal.ensures (refused_first _ _ _ _ c.in_err-room_refusal.ensures))

pub returns-in_err-room_refusal-2 : goal.returns-in_err-room_refusal-2
unfolding fast_bytes_refusal
returns-in_err-room_refusal-2 c =
    handed_on _ _ _ c.from_residual-in_err-room_refusal-2.ensures.1
    (passed_first _ _ _ c.in_ok-triangles_refusal.ensures (passed_first _ _ _ c.in_ok-room_refusal.ensures
    (refused_first _ _ _ _ c.in_err-room_refusal-2.ensures)))

pub tree_refusal-requires : goal.tree_refusal-requires
tree_refusal-requires c = (triangles_passed _ (sym c.in_ok-triangles_refusal.ensures)).few

pub returns-in_err-tree_refusal : goal.returns-in_err-tree_refusal
unfolding fast_bytes_refusal
returns-in_err-tree_refusal c =
    handed_on _ _ _ c.from_residual-in_err-tree_refusal.ensures.1
    (passed_first _ _ _ c.in_ok-triangles_refusal.ensures (passed_first _ _ _ c.in_ok-room_refusal.ensures
    (passed_first _ _ _ c.in_ok-room_refusal-2.ensures (refused_first _ _ _ _ c.in_err-tree_refusal.ensures))))

pub returns-in_err-point_bytes_refusal : goal.returns-in_err-point_bytes_refusal
unfolding fast_bytes_refusal
returns-in_err-point_bytes_refusal c =
    handed_on _ _ _ c.from_residual-in_err-point_bytes_refusal.ensures.1
    (passed_first _ _ _ c.in_ok-triangles_refusal.ensures (passed_first _ _ _ c.in_ok-room_refusal.ensures
    (passed_first _ _ _ c.in_ok-room_refusal-2.ensures (passed_first _ _ _ c.in_ok-tree_refusal.ensures
    (refused_first _ _ _ _ c.in_err-point_bytes_refusal.ensures)))))

pub returns : goal.returns
unfolding fast_bytes_refusal
returns c =
    passed_first _ _ _ c.in_ok-triangles_refusal.ensures (passed_first _ _ _ c.in_ok-room_refusal.ensures
    (passed_first _ _ _ c.in_ok-room_refusal-2.ensures (passed_first _ _ _ c.in_ok-tree_refusal.ensures
    (passed_first _ _ _ c.in_ok-point_bytes_refusal.ensures (last _ _ c.scale_refusal.ensures)))))
