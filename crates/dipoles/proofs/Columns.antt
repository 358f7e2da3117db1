-- A matrix that an operation made of each column, by what it made of each.
use mathlib.Core.Path.{◌≡◌}
use Rattle.spec_dipoles.specs.Matrices.{Matrix}
use Rattle.shapes.specs.Values.{as_point}
use Rattle.dipoles.specs.declared.matrix3.Matrix3.{Matrix3}
use Rattle.dipoles.specs.Values.{as_matrix}

-- a matrix of the code stands for the one that has its columns
pub by_columns : (m : Matrix3) (n : Matrix) → as_point m.x ≡ n.x → as_point m.y ≡ n.y → as_point m.z ≡ n.z → as_matrix m ≡ n
by_columns m n x y z = λ i. record { x = x i; y = y i; z = z i }
