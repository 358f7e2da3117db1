-- `image::get::read_nodes` meets its contract: a turn reads one node more, into two lists (`Run` of each).
use Rattle.spec_tables.proofs.Runs.{run_start, run_front}
use Rattle.spec_image.proofs.Sizes.{length_links, length_box}
use Rattle.image.proofs.get.read_nodes.Goals as goal

pub loop-node-init : goal.loop-node-init
loop-node-init c = (run_start _ 3 _ _ _, run_start _ 6 _ _ _)

pub loop-node-preserved : goal.loop-node-preserved
loop-node-preserved c =
    let room = c.requires.room_for_nodes in
    let v = c.loop-node.invariant in (
      run_front _ 3 _ _ _ _ _ (length_links _ _ _) room.0 c.loop-node-test.true v.0 c.read_node.ensures.links_after,
      run_front _ 6 _ _ _ _ _ (length_box _ _ _) room.1 c.loop-node-test.true v.1 c.read_node.ensures.boxes_after,
    )
