-- `image::put::put_node` meets its contract: the kind, left and right, and the box.
use Rattle.spec_tables.proofs.Tables.{put_then}
use Rattle.spec_image.specs.Image.{node_bytes}
use Rattle.image.proofs.Versions.{same_float}
use Rattle.image.proofs.put.put_node.Goals as goal

pub returns-clause-put : goal.returns-clause-put
unfolding node_bytes
returns-clause-put c =
    let links = put_then c.put_numbers-sides.ensures.put c.put_entries-bounds.ensures.put in
    rw (same_float c.args.version) (put_then links c.put_f32s.ensures.put)
