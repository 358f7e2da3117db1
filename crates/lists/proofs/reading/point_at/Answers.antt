-- `lists::reading::point_at` meets its contract: what `number_at` ensures, on each axis.
use Rattle.spec_lists.specs.Reading.{point_at}
use Rattle.lists.proofs.reading.point_at.Goals as goal

pub returns : goal.returns
unfolding point_at
returns c = λ i. record { x = c.number_at.ensures i; y = c.number_at-2.ensures i; z = c.number_at-3.ensures i }
