-- `splits::costs::Cheapest::with_cost` meets its contract: each arm returns what the test picks.
use Rattle.spec_splits.specs.Area.{with_cost}
use Rattle.splits.proofs.costs.Cheapest.with_cost.Goals as goal

pub returns-then-cost-self : goal.returns-then-cost-self
unfolding with_cost
returns-then-cost-self c = rw (c.is_nan.ensures.value, c.if-cost-self.true)

pub returns : goal.returns
unfolding with_cost
returns c = rw (c.is_nan.ensures.value, c.if-cost-self.false)
