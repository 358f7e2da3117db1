-- `dipoles::far::second_by` meets its contract: what each call ensures, put in.
use lib.Ieee.{of_bits}
use Rattle.spec_dipoles.specs.Far.{second_by}
use Rattle.dipoles.proofs.far.second_by.Goals as goal

pub returns : goal.returns
unfolding second_by of_bits
returns c =
    rw (
      c.minus.ensures,
      c.over.ensures,
      c.outer.ensures,
      c.scale.ensures,
      c.identity_times.ensures,
    )
