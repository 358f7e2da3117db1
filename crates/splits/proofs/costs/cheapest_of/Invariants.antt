-- `splits::costs::cheapest_of` meets its contract. The invariant: the costs that remain, from the best so far, give what all give.
use Rattle.std.proofs.Common.{◌≡◌, drop}
use mathlib.Core.List.{foldl}
use Rattle.spec_splits.specs.Area.{with_cost, cheapest_of}
use Rattle.splits.specs.Values.{cheapest_among}
use Rattle.splits.proofs.costs.cheapest_of.Given as goal

abbrev pub invariant-loop-i : goal.invariant-loop-i
invariant-loop-i l =
    foldl with_cost (cheapest_among l.i l.best) (drop l.i l.fn.costs) ≡ cheapest_of l.fn.costs
