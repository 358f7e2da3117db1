-- `gauge_run::request::Request::refusal` meets its contract: six tests in a row.
use Rattle.lists.proofs.Rows.{handed_on, refused_first, passed_first, last}
use Rattle.spec_gauge.specs.Printed.{request_refusal}
use Rattle.gauge_run.proofs.request.Request.refusal.Goals as goal

pub returns-in_err-triangles_refusal : goal.returns-in_err-triangles_refusal
unfolding request_refusal
returns-in_err-triangles_refusal c = handed_on _ _ _ c.from_residual.ensures.1 (refused_first _ _ _ _ c.in_err-triangles_refusal.ensures)

pub returns-in_err-settings_refusal : goal.returns-in_err-settings_refusal
unfolding request_refusal
returns-in_err-settings_refusal c =
    handed_on _ _ _ c.from_residual-in_err-settings_refusal.ensures.1
    (passed_first _ _ _ c.in_ok-triangles_refusal.ensures (refused_first _ _ _ _ c.in_err-settings_refusal.ensures))

pub returns-in_err-leaf_refusal : goal.returns-in_err-leaf_refusal
unfolding request_refusal
returns-in_err-leaf_refusal c =
    handed_on _ _ _ c.from_residual-in_err-leaf_refusal.ensures.1
    (passed_first _ _ _ c.in_ok-triangles_refusal.ensures (passed_first _ _ _ c.in_ok-settings_refusal.ensures
    (refused_first _ _ _ _ c.in_err-leaf_refusal.ensures)))

pub returns-in_err-rule_refusal : goal.returns-in_err-rule_refusal
unfolding request_refusal
returns-in_err-rule_refusal c =
    handed_on _ _ _ c.from_residual-in_err-rule_refusal.ensures.1
    (passed_first _ _ _ c.in_ok-triangles_refusal.ensures (passed_first _ _ _ c.in_ok-settings_refusal.ensures
    (passed_first _ _ _ c.in_ok-leaf_refusal.ensures (refused_first _ _ _ _ c.in_err-rule_refusal.ensures))))

pub returns-in_err-points_refusal : goal.returns-in_err-points_refusal
unfolding request_refusal
returns-in_err-points_refusal c =
    handed_on _ _ _ c.from_residual-in_err-points_refusal.ensures.1
    (passed_first _ _ _ c.in_ok-triangles_refusal.ensures (passed_first _ _ _ c.in_ok-settings_refusal.ensures
    (passed_first _ _ _ c.in_ok-leaf_refusal.ensures (passed_first _ _ _ c.in_ok-rule_refusal.ensures
    (refused_first _ _ _ _ c.in_err-points_refusal.ensures)))))

pub returns : goal.returns
unfolding request_refusal
returns c =
    passed_first _ _ _ c.in_ok-triangles_refusal.ensures (passed_first _ _ _ c.in_ok-settings_refusal.ensures
    (passed_first _ _ _ c.in_ok-leaf_refusal.ensures (passed_first _ _ _ c.in_ok-rule_refusal.ensures
    (passed_first _ _ _ c.in_ok-points_refusal.ensures (last _ _ c.distance_refusal.ensures)))))
