-- `build::tests::lists_refusal` meets its contract: six lengths in a row.
use Rattle.lists.proofs.Rows.{handed_on, refused_first, passed_first, last}
use Rattle.build.proofs.tests.lists_refusal.Goals as goal

pub returns-in_err-room_refusal : goal.returns-in_err-room_refusal
returns-in_err-room_refusal c =
    handed_on _ _ _ c.from_residual.ensures.1
    (refused_first _ _ _ _ c.in_err-room_refusal.ensures)

pub returns-in_err-room_refusal-2 : goal.returns-in_err-room_refusal-2
returns-in_err-room_refusal-2 c =
    handed_on _ _ _ c.from_residual-in_err-room_refusal-2.ensures.1
    (passed_first _ _ _ c.in_ok-room_refusal.ensures
    (refused_first _ _ _ _ c.in_err-room_refusal-2.ensures))

pub returns-in_err-room_refusal-3 : goal.returns-in_err-room_refusal-3
returns-in_err-room_refusal-3 c =
    handed_on _ _ _ c.from_residual-in_err-room_refusal-3.ensures.1
    (passed_first _ _ _ c.in_ok-room_refusal.ensures
    (passed_first _ _ _ c.in_ok-room_refusal-2.ensures
    (refused_first _ _ _ _ c.in_err-room_refusal-3.ensures)))

pub returns-in_err-room_refusal-4 : goal.returns-in_err-room_refusal-4
returns-in_err-room_refusal-4 c =
    handed_on _ _ _ c.from_residual-in_err-room_refusal-4.ensures.1
    (passed_first _ _ _ c.in_ok-room_refusal.ensures
    (passed_first _ _ _ c.in_ok-room_refusal-2.ensures
    (passed_first _ _ _ c.in_ok-room_refusal-3.ensures
    (refused_first _ _ _ _ c.in_err-room_refusal-4.ensures))))

pub returns-in_err-room_refusal-5 : goal.returns-in_err-room_refusal-5
returns-in_err-room_refusal-5 c =
    handed_on _ _ _ c.from_residual-in_err-room_refusal-5.ensures.1
    (passed_first _ _ _ c.in_ok-room_refusal.ensures
    (passed_first _ _ _ c.in_ok-room_refusal-2.ensures
    (passed_first _ _ _ c.in_ok-room_refusal-3.ensures
    (passed_first _ _ _ c.in_ok-room_refusal-4.ensures
    (refused_first _ _ _ _ c.in_err-room_refusal-5.ensures)))))

pub returns : goal.returns
returns c =
    passed_first _ _ _ c.in_ok-room_refusal.ensures
    (passed_first _ _ _ c.in_ok-room_refusal-2.ensures
    (passed_first _ _ _ c.in_ok-room_refusal-3.ensures
    (passed_first _ _ _ c.in_ok-room_refusal-4.ensures
    (passed_first _ _ _ c.in_ok-room_refusal-5.ensures
    (last _ _ c.room_refusal-6.ensures)))))
