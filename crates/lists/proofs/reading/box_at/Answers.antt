-- `lists::reading::box_at` meets its contract: what `triangle_at` and `bbox` ensure.
use Rattle.spec_lists.specs.Reading.{box_at}
use Rattle.lists.proofs.reading.box_at.Goals as goal

pub returns : goal.returns
unfolding box_at
returns c = rw (c.bbox.ensures, c.triangle_at.ensures)
