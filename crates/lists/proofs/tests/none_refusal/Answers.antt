-- `lists::tests::none_refusal` meets its contract: what `triangle_count` and `refused_if` ensure.
use Rattle.spec_lists.specs.Refusals.{none_refusal}
use Rattle.lists.proofs.tests.none_refusal.Goals as goal

pub returns : goal.returns
unfolding none_refusal
returns c = rw (c.refused_if.ensures, c.triangle_count.ensures)
