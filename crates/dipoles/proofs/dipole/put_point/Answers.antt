-- `dipoles::dipole::put_point` meets its contract: three stores are one write.
use mathlib.Core.Path.{refl}
use Rattle.spec_tables.proofs.Stores.{three_stores}
use borrow.Author.Rules.{rules}
use Rattle.dipoles.proofs.dipole.put_point.Goals as goal

pub returns : goal.returns
returns c = record { written = three_stores _ _ _ _ _ (search rules); behind = refl; within = search rules }
