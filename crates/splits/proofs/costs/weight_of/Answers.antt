-- `splits::costs::weight_of` meets its contract: what the two calls ensure.
use Rattle.spec_splits.specs.Area.{weight}
use Rattle.splits.proofs.costs.weight_of.Goals as goal

pub returns : goal.returns
unfolding weight
returns c = rw (c.area.ensures, c.nearest_u32_to_f32.ensures)
