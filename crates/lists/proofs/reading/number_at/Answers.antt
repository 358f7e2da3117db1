-- `lists::reading::number_at` meets its contract: what `plus_zero` ensures.
use Rattle.spec_lists.specs.Reading.{number_at}
use Rattle.lists.proofs.reading.number_at.Goals as goal

pub returns : goal.returns
unfolding number_at
returns c = c.plus_zero.ensures
