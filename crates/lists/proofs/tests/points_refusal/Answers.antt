-- `lists::tests::points_refusal` meets its contract: two tests in a row.
use Rattle.spec_lists.specs.Refusals.{points_refusal}
use Rattle.lists.proofs.Rows.{handed_on, refused_first, passed_first, last, told-bad}
use Rattle.lists.proofs.tests.points_refusal.Goals as goal

pub returns-in_err-refused_if : goal.returns-in_err-refused_if
unfolding points_refusal
returns-in_err-refused_if c =
    handed_on _ _ _ c.from_residual.ensures.1 (refused_first _ _ _ _ c.in_err-refused_if.ensures)

pub returns-in-Some : goal.returns-in-Some
unfolding points_refusal
returns-in-Some c =
    passed_first _ _ _ c.in_ok-refused_if.ensures (last _ _ (told-bad 8 _ _ c.in-Some.ensures))

pub returns-in-None : goal.returns-in-None
unfolding points_refusal
returns-in-None c =
    passed_first _ _ _ c.in_ok-refused_if.ensures (last _ _ (told-bad 8 _ _ c.in-None.ensures))
