-- `image::put::put_triangles` meets its contract: a header, and the numbers behind it.
use lib.Ieee.{binary32}
use Rattle.spec_records.proofs.Entries.{length_floats}
use Rattle.spec_records.proofs.Records.{record_put}
use Rattle.image.proofs.put.put_triangles.Goals as goal

pub returns-clause-put : goal.returns-clause-put
returns-clause-put c =
    record_put 2 _ (length_floats binary32 c.args.triangles.now 0 _) c.put_header-body.ensures.put c.put_f32s.ensures.put
