-- `dipoles::stored::store_sums` meets its contract: before each turn the sums of the nodes before it stand in the list.
use Rattle.spec_dipoles.proofs.Storing.{store_start, store_more, store_end}
use Rattle.dipoles.proofs.stored.store_sums.Goals as goal

pub loop-node-init : goal.loop-node-init
loop-node-init c = store_start _ _ _ _ _ _

pub loop-node-preserved : goal.loop-node-preserved
loop-node-preserved c =
    store_more _ _ _ _ _ _ _ _ _ _ c.requires.readable c.requires.room c.loop-node-test.true c.loop-node.invariant c.sums_from-sums.ensures
    c.store.ensures

pub returns : goal.returns
returns c = store_end _ _ _ _ _ _ _ _ c.loop-node-test.false c.loop-node.invariant
