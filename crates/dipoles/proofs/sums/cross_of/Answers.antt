-- `dipoles::sums::cross_of` meets its contract: what `minus` and `cross` ensure.
use Rattle.spec_dipoles.specs.Sums.{cross_of}
use Rattle.dipoles.proofs.sums.cross_of.Goals as goal

pub returns : goal.returns
unfolding cross_of
returns c = rw (c.cross.ensures, c.minus-2.ensures, c.minus.ensures)
