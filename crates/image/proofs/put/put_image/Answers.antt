-- `image::put::put_image` meets its contract: four records, one behind the other.
use Rattle.spec_tables.proofs.Tables.{put_then}
use Rattle.spec_image.specs.Image.{image_bytes}
use Rattle.image.proofs.Versions.{same_float}
use Rattle.image.proofs.put.put_image.Goals as goal

pub returns-clause-put : goal.returns-clause-put
unfolding image_bytes
returns-clause-put c =
    rw (same_float c.args.version)
    (put_then (put_then (put_then c.put_settings-second.ensures.put c.put_triangles-third.ensures.put) c.put_order-fourth.ensures.put)
    c.put_tree.ensures.put)
