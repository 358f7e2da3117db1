-- `splits::costs::cheapest_of` meets its contract. The invariant: the costs that remain, from the best so far, give what all give.
use Rattle.std.proofs.Common.{◌+◌, ap, arith}
use mathlib.Core.List.{foldl}
use lib.Ieee.{nan}
use Rattle.spec_splits.specs.Area.{Cheapest, with_cost, cheapest_of}
use Rattle.spec_splits.proofs.Turns.{fold_on}
use Rattle.splits.specs.Values.{cheapest_among}
use Rattle.splits.proofs.costs.cheapest_of.Goals as goal

pub loop-i-init : goal.loop-i-init
unfolding cheapest_of
loop-i-init c =
    ap (λ (s : Cheapest). foldl with_cost s c.args.costs) c.none_yet-best.ensures

pub loop-i-preserved : goal.loop-i-preserved
loop-i-preserved c =
    let loop = c.loop-i in
    fold_on nan with_cost c.args.costs loop.i (cheapest_among loop.i loop.best) _ (cheapest_among (loop.i + 1) c.with_cost-best.result) (omega arith)
    c.with_cost-best.ensures loop.invariant
