-- `dipoles::sums::Sums::plus` meets its contract: each part is what its `plus` ensures.
use Rattle.spec_dipoles.specs.Sums.{joined_sums}
use Rattle.dipoles.proofs.sums.Sums.plus.Goals as goal

pub returns : goal.returns
unfolding joined_sums
returns c =
    rw (c.plus-3.ensures, c.plus-2.ensures, c.plus.ensures)
