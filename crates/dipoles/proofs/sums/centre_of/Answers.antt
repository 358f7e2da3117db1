-- `dipoles::sums::centre_of` meets its contract: what `plus` and `over` ensure.
use lib.Ieee.{of_bits}
use Rattle.spec_dipoles.specs.Sums.{centre_of}
use Rattle.dipoles.proofs.sums.centre_of.Goals as goal

pub returns : goal.returns
unfolding centre_of of_bits
returns c = rw (c.over.ensures, c.plus-2.ensures, c.plus.ensures)
