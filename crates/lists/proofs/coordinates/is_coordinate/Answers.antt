-- `lists::coordinates::is_coordinate` meets its contract: the program's numbers are the limit and its opposite.
use lib.Ieee.{of_bits, neg}
use Rattle.spec_lists.specs.Refusals.{is_coordinate}
use Rattle.lists.proofs.coordinates.is_coordinate.Goals as goal

pub returns : goal.returns
unfolding is_coordinate of_bits neg
returns c = c.is_within.ensures
