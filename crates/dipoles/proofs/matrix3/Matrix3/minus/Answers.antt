-- `dipoles::matrix3::Matrix3::minus` meets its contract: the operation on each column.
use Rattle.spec_dipoles.specs.Matrices.{less}
use Rattle.dipoles.proofs.Columns.{by_columns}
use Rattle.dipoles.proofs.matrix3.Matrix3.minus.Goals as goal

pub returns : goal.returns
unfolding less
returns c = by_columns _ _ c.zip.ensures.x.2 c.zip.ensures.y.2 c.zip.ensures.z.2
