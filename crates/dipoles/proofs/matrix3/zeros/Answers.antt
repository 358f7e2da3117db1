-- `dipoles::matrix3::zeros` meets its contract: nine times the constant.
use mathlib.Core.Path.{refl}
use lib.Ieee.{of_bits}
use Rattle.spec_dipoles.specs.Matrices.{zeros}
use Rattle.dipoles.proofs.matrix3.zeros.Goals as goal

pub returns : goal.returns
unfolding zeros of_bits
returns c = rw c.splat-origin.ensures refl
