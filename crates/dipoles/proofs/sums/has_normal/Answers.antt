-- `dipoles::sums::has_normal` meets its contract: the square of what `cross_of` ensures, compared with zero.
use lib.Ieee.{of_bits, ne}
use Rattle.spec_dipoles.specs.Sums.{has_normal}
use Rattle.dipoles.proofs.sums.has_normal.Goals as goal

pub returns : goal.returns
unfolding has_normal of_bits ne
returns c = rw (c.dot.ensures, c.cross_of-cross.ensures)
