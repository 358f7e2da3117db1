-- `dipoles::matrix3::outer` meets its contract: each column is what `scale` ensures.
use Rattle.spec_dipoles.specs.Matrices.{outer}
use Rattle.dipoles.proofs.matrix3.outer.Goals as goal

pub returns : goal.returns
unfolding outer
returns c = λ i. record { x = c.scale.ensures i; y = c.scale-2.ensures i; z = c.scale-3.ensures i }
