-- `dipoles::dipole::put_matrix` meets its contract: three points, one behind the other.
use Rattle.spec_tables.proofs.Tables.{put_then}
use Rattle.dipoles.proofs.dipole.put_matrix.Goals as goal

pub returns : goal.returns
returns c =
    put_then c.put_point-second.ensures (put_then c.put_point-third.ensures c.put_point.ensures)
