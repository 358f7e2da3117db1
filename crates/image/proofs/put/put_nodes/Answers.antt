-- `image::put::put_nodes` meets its contract: a turn puts one node more (`Puts`).
use Rattle.spec_tables.proofs.Runs.{puts_start, puts_more}
use Rattle.image.proofs.put.put_nodes.Goals as goal

pub loop-node-init : goal.loop-node-init
loop-node-init c = puts_start _ _ _ _ _ c.requires.room_for_nodes

pub loop-node-preserved : goal.loop-node-preserved
loop-node-preserved c =
    puts_more _ _ _ _ c.loop-node-test.true c.loop-node.invariant c.put_node-next.ensures.put c.put_node-next.ensures.value
