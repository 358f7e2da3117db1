-- `dipoles::matrix3::down_column` meets its contract: the operations in their order.
use mathlib.Core.Path.{refl}
use Rattle.spec_dipoles.specs.Matrices.{down_column}
use Rattle.dipoles.proofs.matrix3.down_column.Goals as goal

pub returns : goal.returns
unfolding down_column
returns c = refl
