-- `image::get::read_nodes` meets its contract: a turn reads one node more, into two lists (`Run` of each).
use Rattle.spec_tables.proofs.Runs.{Run}
use Rattle.records.specs.Values.{shape_of}
use Rattle.spec_image.specs.Image.{links_in, sides_in}
use Rattle.image.proofs.get.read_nodes.Given as goal

abbrev pub invariant-loop-node : goal.invariant-loop-node
invariant-loop-node l =
    Run (links_in (shape_of l.version) l.bytes l.start) 0 l.nodes l.initial.links l.links l.node
    × Run (sides_in (shape_of l.version) l.bytes l.start) 0 l.nodes l.initial.boxes l.boxes l.node
