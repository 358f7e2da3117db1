-- `splits::costs::cost_of` meets its contract: infinite where a side is empty, else the weights over the area of the parent.
use lib.Ieee.{of_bits, div}
use Rattle.spec_splits.specs.Area.{cost}
use Rattle.splits.proofs.costs.cost_of.Goals as goal

pub returns-then-left-right : goal.returns-then-left-right
unfolding cost of_bits div
returns-then-left-right c = rw c.if-left-right.true

pub returns : goal.returns
unfolding cost of_bits
returns c = rw (c.if-left-right.false, c.area.ensures, c.weight_of-2.ensures, c.weight_of.ensures)
