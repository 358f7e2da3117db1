-- `dipoles::calls::fast_winding_by` meets its contract: the walk from the root.
use Rattle.spec_dipoles.specs.Calls.{fast_about}
use Rattle.dipoles.proofs.calls.fast_winding_by.Goals as goal

pub returns : goal.returns
unfolding fast_about
returns c = c.walk.ensures
