-- `host_ask::point_queries::query_refusal` meets its contract: the triangles' tests, what the query chooses, the room, and then, for triangles
-- that passed, three more.
use mathlib.Core.Path.{sym}
use native.Mathlib.Omega.{arith}
use Rattle.lists.proofs.Rows.{handed_on, refused_first, passed_first, last}
use Rattle.spec_lists.proofs.Passed.{triangles_passed}
use Rattle.spec_host.specs.Requests.{query_bytes_refusal}
use Rattle.spec_search.proofs.Calls.{choice_passed}
use Rattle.walks.specs.Values.{as_query}
use Rattle.host_ask.proofs.point_queries.query_refusal.Goals as goal

pub returns-in_err-triangles_refusal : goal.returns-in_err-triangles_refusal
unfolding query_bytes_refusal
returns-in_err-triangles_refusal c = handed_on _ _ _ c.from_residual.ensures.1 (refused_first _ _ _ _ c.in_err-triangles_refusal.ensures)

pub returns-in_err-choice_refusal : goal.returns-in_err-choice_refusal
unfolding query_bytes_refusal
returns-in_err-choice_refusal c =
    handed_on _ _ _ c.from_residual-in_err-choice_refusal.ensures.1
    (passed_first _ _ _ c.in_ok-triangles_refusal.ensures (refused_first _ _ _ _ c.in_err-choice_refusal.ensures))

pub nonzero_div-room-2 : goal.nonzero_div-room-2
nonzero_div-room-2 c =
    let some = (choice_passed (as_query c.args.query) (sym c.in_ok-choice_refusal.ensures)).0 in
    omega (arith, some, c.most_by.ensures)

pub returns-in_err-room_refusal : goal.returns-in_err-room_refusal
unfolding query_bytes_refusal
returns-in_err-room_refusal c =
    handed_on _ _ _ c.from_residual-in_err-room_refusal.ensures.1
    (passed_first _ _ _ c.in_ok-triangles_refusal.ensures (passed_first _ _ _ c.in_ok-choice_refusal.ensures
    (refused_first _ _ _ _ (rw c.most_by.ensures at c.in_err-room_refusal.ensures))))

pub tree_refusal-requires : goal.tree_refusal-requires
tree_refusal-requires c = (triangles_passed _ (sym c.in_ok-triangles_refusal.ensures)).few

pub returns-in_err-tree_refusal : goal.returns-in_err-tree_refusal
unfolding query_bytes_refusal
returns-in_err-tree_refusal c =
    handed_on _ _ _ c.from_residual-in_err-tree_refusal.ensures.1
    (passed_first _ _ _ c.in_ok-triangles_refusal.ensures (passed_first _ _ _ c.in_ok-choice_refusal.ensures
    (passed_first _ _ _ (rw c.most_by.ensures at c.in_ok-room_refusal.ensures)
    (refused_first _ _ _ _ c.in_err-tree_refusal.ensures))))

pub returns-in_err-point_bytes_refusal : goal.returns-in_err-point_bytes_refusal
unfolding query_bytes_refusal
returns-in_err-point_bytes_refusal c =
    handed_on _ _ _ c.from_residual-in_err-point_bytes_refusal.ensures.1
    (passed_first _ _ _ c.in_ok-triangles_refusal.ensures (passed_first _ _ _ c.in_ok-choice_refusal.ensures
    (passed_first _ _ _ (rw c.most_by.ensures at c.in_ok-room_refusal.ensures)
    (passed_first _ _ _ c.in_ok-tree_refusal.ensures (refused_first _ _ _ _ c.in_err-point_bytes_refusal.ensures)))))

pub returns : goal.returns
unfolding query_bytes_refusal
returns c =
    passed_first _ _ _ c.in_ok-triangles_refusal.ensures (passed_first _ _ _ c.in_ok-choice_refusal.ensures
    (passed_first _ _ _ (rw c.most_by.ensures at c.in_ok-room_refusal.ensures)
    (passed_first _ _ _ c.in_ok-tree_refusal.ensures (passed_first _ _ _ c.in_ok-point_bytes_refusal.ensures (last _ _ c.distance_refusal.ensures)))))
