-- `lists::reading::triangle_at` meets its contract: what `point_at` ensures, of each corner.
use Rattle.spec_lists.specs.Reading.{triangle_at}
use Rattle.lists.proofs.reading.triangle_at.Goals as goal

pub returns : goal.returns
unfolding triangle_at
returns c = λ i. record { a = c.point_at.ensures i; b = c.point_at-2.ensures i; c = c.point_at-3.ensures i }
