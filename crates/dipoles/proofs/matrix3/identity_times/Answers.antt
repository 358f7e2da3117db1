-- `dipoles::matrix3::identity_times` meets its contract: the two products, in their places.
use mathlib.Core.Path.{refl}
use lib.Ieee.{of_bits}
use Rattle.spec_dipoles.specs.Matrices.{identity_times}
use Rattle.dipoles.proofs.matrix3.identity_times.Goals as goal

pub returns : goal.returns
unfolding identity_times of_bits
returns c = refl
