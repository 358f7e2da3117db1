-- `dipoles::dipole::put_dipole` meets its contract: its parts, one behind the other.
use native.Mathlib.Omega.{arith}
use Rattle.spec_tables.proofs.Tables.{put_then, put_store, put_long}
use Rattle.dipoles.proofs.dipole.put_dipole.Goals as goal

pub returns : goal.returns
returns c =
    let both = put_then c.put_point-columns.ensures c.put_matrix-radius.ensures in
    (put_then both (put_then (put_store _ _ _ (omega (arith, both.behind, put_long both, c.requires))) c.put_point.ensures)).written
