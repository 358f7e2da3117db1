-- `dipoles::stored::make_dipoles` meets its contract: before each turn the dipoles of the nodes before it stand in the list, and behind them the sums.
use Rattle.spec_dipoles.proofs.Storing.{make_start, make_more, make_end}
use Rattle.dipoles.proofs.stored.make_dipoles.Goals as goal

pub loop-k-init : goal.loop-k-init
loop-k-init c = make_start _ _ _ _

pub loop-k-preserved : goal.loop-k-preserved
loop-k-preserved c =
    make_more _ _ _ _ _ _ _ _ _ _ c.requires.room c.loop-k-test.true c.loop-k.invariant c.node_box.ensures c.restored_at.ensures
    c.dipole_of-dipole.ensures c.put_dipole.ensures

pub returns : goal.returns
returns c = make_end _ _ _ _ _ _ c.loop-k-test.false c.loop-k.invariant
