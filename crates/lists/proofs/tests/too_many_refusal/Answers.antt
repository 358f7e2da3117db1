-- `lists::tests::too_many_refusal` meets its contract: what `triangle_count` and `refused_if` ensure.
use Rattle.spec_lists.specs.Refusals.{too_many_refusal}
use Rattle.lists.proofs.tests.too_many_refusal.Goals as goal

pub returns : goal.returns
unfolding too_many_refusal
returns c = rw (c.refused_if.ensures, c.triangle_count.ensures)
