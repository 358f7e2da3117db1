-- `dipoles::tests::sums_refusal` meets its contract: the first of the three tests that refuses.
use mathlib.Core.Path.{sym}
use Rattle.lists.proofs.Rows.{handed_on, refused_first, passed_first, last}
use Rattle.spec_lists.proofs.Passed.{triangles_passed}
use Rattle.spec_dipoles.specs.Calls.{sums_refusal}
use Rattle.dipoles.proofs.tests.sums_refusal.Goals as goal

pub returns-in_err-triangles_refusal : goal.returns-in_err-triangles_refusal
unfolding sums_refusal
returns-in_err-triangles_refusal c =
    handed_on _ _ _ c.from_residual.ensures.1 (refused_first _ _ _ _ c.in_err-triangles_refusal.ensures)

pub returns-in_err-room_refusal : goal.returns-in_err-room_refusal
unfolding sums_refusal
returns-in_err-room_refusal c =
    handed_on _ _ _ c.from_residual-in_err-room_refusal.ensures.1
    (passed_first _ _ _ c.in_ok-triangles_refusal.ensures (refused_first _ _ _ _ c.in_err-room_refusal.ensures))

pub tree_refusal-requires : goal.tree_refusal-requires
tree_refusal-requires c = (triangles_passed _ (sym c.in_ok-triangles_refusal.ensures)).few

pub returns : goal.returns
unfolding sums_refusal
returns c =
    passed_first _ _ _ c.in_ok-triangles_refusal.ensures
    (passed_first _ _ _ c.in_ok-room_refusal.ensures (last _ _ c.tree_refusal.ensures))
