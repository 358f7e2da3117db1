-- `lists::tests::scale_refusal` meets its contract: what `is_within` and `refused_if` ensure.
use lib.Ieee.{of_bits}
use Rattle.spec_lists.specs.Refusals.{is_scale, scale_refusal}
use Rattle.lists.proofs.tests.scale_refusal.Goals as goal

pub returns : goal.returns
unfolding scale_refusal is_scale of_bits
returns c = rw (c.refused_if.ensures, c.is_within.ensures)
