-- `dipoles::far::term_by` meets its contract: what each call ensures, put in.
use lib.Ieee.{of_bits}
use Rattle.spec_dipoles.specs.Far.{term_by}
use Rattle.dipoles.proofs.far.term_by.Goals as goal

pub returns : goal.returns
unfolding term_by of_bits
returns c =
    rw (c.dot-2.ensures, c.second_by.ensures, c.dot.ensures, c.scale.ensures)
