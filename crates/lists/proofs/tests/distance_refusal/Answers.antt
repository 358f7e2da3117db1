-- `lists::tests::distance_refusal` meets its contract: what `is_within` and `refused_if` ensure.
use lib.Ieee.{of_bits}
use Rattle.spec_lists.specs.Refusals.{is_distance, distance_refusal}
use Rattle.lists.proofs.tests.distance_refusal.Goals as goal

pub returns : goal.returns
unfolding distance_refusal is_distance of_bits
returns c = rw (c.refused_if.ensures, c.is_within.ensures)
