-- `tree::count::count_refusal` meets its contract: what `is_present` ensures, and the test of the count.
use Rattle.spec_tree.specs.Reasons.{count_refusal}
use Rattle.tree.proofs.count.count_refusal.Goals as goal

pub returns : goal.returns
unfolding count_refusal
returns c = rw (← c.is_present.ensures) c.refused_if.ensures
