-- `image::get::read_lists` meets its contract: the triangles, the order and the nodes.
use Rattle.spec_image.specs.Image.{image_in}
use Rattle.image.proofs.Versions.{same_float}
use Rattle.image.proofs.get.read_lists.Goals as goal

pub returns : goal.returns
unfolding image_in
returns c =
    let order = c.order_size.ensures in
    rw (same_float c.args.version) (record {
      triangles = c.read_f32s.ensures;
      order = c.read_entries.ensures;
      links = rw (← order) c.read_nodes.ensures.links_after;
      boxes = rw (← order) c.read_nodes.ensures.boxes_after;
    })
