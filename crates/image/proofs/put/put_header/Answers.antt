-- `image::put::put_header` meets its contract: the length, and the kind behind it.
use Rattle.spec_tables.proofs.Tables.{put_then}
use Rattle.spec_records.specs.Records.{header}
use Rattle.image.proofs.put.put_header.Goals as goal

pub returns-clause-put : goal.returns-clause-put
unfolding header
returns-clause-put c = put_then c.put_u32-next.ensures.put c.put_u16.ensures.put
