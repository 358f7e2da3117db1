-- `splits::area::cut_by` meets its contract: each arm returns what the test picks.
use lib.ListN.{length-map}
use Rattle.spec_splits.specs.Area.{cut_by}
use Rattle.splits.proofs.area.cut_by.Goals as goal

pub returns-then-best-leaf_cost : goal.returns-then-best-leaf_cost
unfolding cut_by
returns-then-best-leaf_cost c = rw (length-map, ← c.nearest_u32_to_f32-leaf_cost.ensures, c.if-best-leaf_cost.true, c.first_later.ensures)

pub returns : goal.returns
unfolding cut_by
returns c = rw (length-map, ← c.nearest_u32_to_f32-leaf_cost.ensures, c.if-best-leaf_cost.false)
