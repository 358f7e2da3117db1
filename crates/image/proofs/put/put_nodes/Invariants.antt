-- `image::put::put_nodes` meets its contract: a turn puts one node more (`Puts`).
use Rattle.spec_tables.proofs.Runs.{Puts}
use Rattle.spec_records.specs.Layouts.{node_size}
use Rattle.records.specs.Values.{shape_of}
use Rattle.spec_image.specs.Image.{node_bytes}
use Rattle.image.proofs.put.put_nodes.Given as goal

abbrev pub invariant-loop-node : goal.invariant-loop-node
invariant-loop-node l =
    Puts (node_bytes (shape_of l.version) l.drawing.links.now l.drawing.boxes.now) (node_size (shape_of l.version)) l.at l.drawing.nodes
    l.initial.out l.out l.next l.node
