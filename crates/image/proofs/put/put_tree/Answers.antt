-- `image::put::put_tree` meets its contract: a header, and the nodes behind it.
use Rattle.spec_tables.proofs.Tables.{length_concat_map}
use Rattle.records.specs.Values.{shape_of}
use Rattle.spec_records.proofs.Records.{record_put}
use Rattle.spec_image.proofs.Sizes.{length_node}
use Rattle.image.proofs.put.put_tree.Goals as goal

pub returns-clause-put : goal.returns-clause-put
returns-clause-put c =
    let long = length_concat_map _ _ _ (length_node (shape_of c.args.version) c.args.drawing.now.links.now c.args.drawing.now.boxes.now) in
    record_put 4 _ long (rw c.nodes_size.ensures at c.put_header-body.ensures.put) c.put_nodes.ensures.put
