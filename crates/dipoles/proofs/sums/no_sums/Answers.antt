-- `dipoles::sums::no_sums` meets its contract: zeros everywhere.
use lib.Ieee.{of_bits}
use Rattle.spec_dipoles.specs.Sums.{no_sums}
use Rattle.dipoles.proofs.sums.no_sums.Goals as goal

pub returns : goal.returns
unfolding no_sums of_bits
returns c = rw (c.zeros.ensures, c.splat-origin.ensures)
