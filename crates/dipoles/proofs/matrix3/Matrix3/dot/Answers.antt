-- `dipoles::matrix3::Matrix3::dot` meets its contract: what `down_column` ensures, three times.
use lib.Ieee.{of_bits}
use Rattle.spec_dipoles.specs.Matrices.{dot_of}
use Rattle.dipoles.proofs.matrix3.Matrix3.dot.Goals as goal

pub returns : goal.returns
unfolding dot_of of_bits
returns c = rw (c.down_column-3.ensures, c.down_column-2.ensures, c.down_column.ensures)
