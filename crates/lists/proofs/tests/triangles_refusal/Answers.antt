-- `lists::tests::triangles_refusal` meets its contract: the tests of the length in a row, then that of the coordinates.
use Rattle.spec_lists.specs.Refusals.{triangles_refusal}
use Rattle.lists.proofs.Rows.{handed_on, refused_first, passed_first, last, told-bad}
use Rattle.lists.proofs.tests.triangles_refusal.Goals as goal

pub returns-in_err-ragged_refusal : goal.returns-in_err-ragged_refusal
unfolding triangles_refusal
returns-in_err-ragged_refusal c =
    handed_on _ _ _ c.from_residual.ensures.1 (refused_first _ _ _ _ c.in_err-ragged_refusal.ensures)

pub returns-in_err-none_refusal : goal.returns-in_err-none_refusal
unfolding triangles_refusal
returns-in_err-none_refusal c =
    handed_on _ _ _ c.from_residual-in_err-none_refusal.ensures.1
    (passed_first _ _ _ c.in_ok-ragged_refusal.ensures (refused_first _ _ _ _ c.in_err-none_refusal.ensures))

pub returns-in_err-too_many_refusal : goal.returns-in_err-too_many_refusal
unfolding triangles_refusal
returns-in_err-too_many_refusal c =
    handed_on _ _ _ c.from_residual-in_err-too_many_refusal.ensures.1
    (passed_first _ _ _ c.in_ok-ragged_refusal.ensures
    (passed_first _ _ _ c.in_ok-none_refusal.ensures (refused_first _ _ _ _ c.in_err-too_many_refusal.ensures)))

pub returns-in-Some : goal.returns-in-Some
unfolding triangles_refusal
returns-in-Some c =
    passed_first _ _ _ c.in_ok-ragged_refusal.ensures
    (passed_first _ _ _ c.in_ok-none_refusal.ensures
    (passed_first _ _ _ c.in_ok-too_many_refusal.ensures (last _ _ (told-bad 4 _ _ c.in-Some.ensures))))

pub returns-in-None : goal.returns-in-None
unfolding triangles_refusal
returns-in-None c =
    passed_first _ _ _ c.in_ok-ragged_refusal.ensures
    (passed_first _ _ _ c.in_ok-none_refusal.ensures
    (passed_first _ _ _ c.in_ok-too_many_refusal.ensures (last _ _ (told-bad 4 _ _ c.in-None.ensures))))
