-- `dipoles::stored::store_sums` meets its contract: before each turn the sums of the nodes before it stand in the list.
use lib.Ieee.{binary32}
use Rattle.spec_dipoles.proofs.Storing.{SumsStored}
use Rattle.dipoles.proofs.stored.store_sums.Given as goal

abbrev pub invariant-loop-node : goal.invariant-loop-node
invariant-loop-node l =
    let d = l.drawing in
    SumsStored binary32 d.triangles.now d.order.now d.links.now d.nodes l.initial.out l.out l.node
