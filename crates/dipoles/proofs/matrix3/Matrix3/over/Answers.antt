-- `dipoles::matrix3::Matrix3::over` meets its contract: each column is what `over` of points ensures.
use Rattle.spec_dipoles.specs.Matrices.{over}
use Rattle.dipoles.proofs.matrix3.Matrix3.over.Goals as goal

pub returns : goal.returns
unfolding over
returns c = λ i. record { x = c.over.ensures i; y = c.over-2.ensures i; z = c.over-3.ensures i }
