-- `stl::put::put_stl` meets its contract: the header, the count, the facets.
use native.Mathlib.Omega.{arith}
use Rattle.spec_tables.proofs.Tables.{put_then}
use Rattle.spec_lists.specs.Reading.{triangle_count}
use Rattle.spec_stl.specs.Stl.{stl_bytes}
use Rattle.stl.proofs.put.put_stl.Goals as goal

pub put_facets-requires : goal.put_facets-requires
unfolding triangle_count
put_facets-requires c = (omega arith, omega arith)

pub returns-clause-put : goal.returns-clause-put
unfolding stl_bytes
returns-clause-put c =
    let behind = put_then c.put_u32-facets.ensures.put c.put_facets.ensures.put in
    put_then c.put_zeros-number.ensures.put (rw c.triangle_count-count.ensures at behind)
