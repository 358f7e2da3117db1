-- `dipoles::dipole::dipole_at` meets its contract: each part is what its reader ensures.
use Rattle.spec_dipoles.specs.Calls.{dipole_at}
use Rattle.dipoles.proofs.dipole.dipole_at.Goals as goal

pub returns : goal.returns
unfolding dipole_at
returns c =
    rw (c.point_from-2.ensures, c.matrix_from.ensures, c.point_from.ensures)
