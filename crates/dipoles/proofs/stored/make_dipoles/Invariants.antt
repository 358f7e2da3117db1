-- `dipoles::stored::make_dipoles` meets its contract: before each turn the dipoles of the nodes before it stand in the list, and behind them the sums.
use lib.Ieee.{binary32}
use Rattle.spec_dipoles.proofs.Storing.{DipolesMade}
use Rattle.dipoles.proofs.stored.make_dipoles.Given as goal

abbrev pub invariant-loop-k : goal.invariant-loop-k
invariant-loop-k l = DipolesMade binary32 l.drawing.boxes.now l.drawing.nodes l.initial.out l.out l.k
