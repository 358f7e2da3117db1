-- `grow::tries::Cutter::rule` meets its contract: what the two rules ensure, by the strategy of the number.
use Rattle.spec_build.specs.Tries.{rule}
use Rattle.grow.proofs.tries.Cutter.rule.Goals as goal

pub returns-in-Median : goal.returns-in-Median
unfolding rule
returns-in-Median c = rw (← c.in-Median.ensures) c.median_split.ensures

pub returns-in-Area : goal.returns-in-Area
unfolding rule
returns-in-Area c = rw (← c.in-Area.ensures) c.area_split.ensures
