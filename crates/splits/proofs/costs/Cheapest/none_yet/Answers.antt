-- `splits::costs::Cheapest::none_yet` meets its contract: 1 / 0 is infinite.
use Rattle.std.proofs.Common.{refl}
use lib.Ieee.{of_bits, div}
use Rattle.spec_splits.specs.Area.{none_yet}
use Rattle.splits.proofs.costs.Cheapest.none_yet.Goals as goal

pub returns : goal.returns
unfolding none_yet of_bits div
returns c = refl
