-- `stl::put::put_facet` meets its contract: zeros, the corners, zeros.
use Rattle.spec_tables.proofs.Tables.{put_then}
use Rattle.spec_stl.specs.Stl.{facet_bytes}
use Rattle.stl.proofs.put.put_facet.Goals as goal

pub returns-clause-put : goal.returns-clause-put
unfolding facet_bytes
returns-clause-put c =
    put_then c.put_zeros-corners.ensures.put (put_then c.put_f32s-attribute.ensures.put c.put_zeros.ensures.put)
