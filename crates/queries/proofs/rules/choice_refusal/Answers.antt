-- `queries::rules::choice_refusal` meets its contract: a query for the nearest few has its rule tested, and then how many are asked for.
use Rattle.lists.proofs.Rows.{handed_on, refused_first, passed_first, last}
use Rattle.queries.proofs.rules.choice_refusal.Goals as goal

pub returns-in_err-rule_refusal-in-Few : goal.returns-in_err-rule_refusal-in-Few
returns-in_err-rule_refusal-in-Few c =
    rw c.in-Few.is (handed_on _ _ _ c.from_residual.ensures.1 (refused_first _ _ _ _ c.in_err-rule_refusal-in-Few.ensures))

pub returns-in_ok-rule_refusal-in-Few : goal.returns-in_ok-rule_refusal-in-Few
returns-in_ok-rule_refusal-in-Few c =
    rw c.in-Few.is (passed_first _ _ _ c.in_ok-rule_refusal-in-Few.ensures (last _ _ c.most_refusal.ensures))
