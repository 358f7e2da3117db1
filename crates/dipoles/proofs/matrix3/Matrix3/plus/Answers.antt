-- `dipoles::matrix3::Matrix3::plus` meets its contract: the operation on each column.
use Rattle.spec_dipoles.specs.Matrices.{added}
use Rattle.dipoles.proofs.Columns.{by_columns}
use Rattle.dipoles.proofs.matrix3.Matrix3.plus.Goals as goal

pub returns : goal.returns
unfolding added
returns c = by_columns _ _ c.zip.ensures.x.2 c.zip.ensures.y.2 c.zip.ensures.z.2
