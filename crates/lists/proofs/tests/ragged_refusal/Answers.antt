-- `lists::tests::ragged_refusal` meets its contract: what `refused_if` ensures.
use Rattle.spec_lists.specs.Refusals.{ragged_refusal}
use Rattle.lists.proofs.tests.ragged_refusal.Goals as goal

pub returns : goal.returns
unfolding ragged_refusal
returns c = c.refused_if.ensures
