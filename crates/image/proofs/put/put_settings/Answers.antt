-- `image::put::put_settings` meets its contract: a header, and four numbers behind it.
use mathlib.Core.Path.{ap}
use Rattle.spec_tables.proofs.Tables.{put_same, put_then}
use Rattle.spec_records.specs.Little.{little}
use Rattle.records.specs.Values.{shape_of}
use Rattle.spec_records.proofs.Records.{record_put}
use Rattle.spec_image.specs.Image.{settings_bytes}
use Rattle.spec_image.proofs.Sizes.{length_settings}
use Rattle.lists.specs.Values.{as_settings}
use Rattle.image.proofs.put.put_settings.Goals as goal

pub returns-clause-put : goal.returns-clause-put
unfolding settings_bytes
returns-clause-put c =
    let a = c.args in
    let first = put_same (ap (little 2) c.number.ensures) c.put_u16-a.ensures.put in
    let numbers = put_then (put_then (put_then first c.put_u16-b.ensures.put) c.put_u16-c.ensures.put)
    c.put_u16.ensures.put in
    record_put 1 8 (length_settings (shape_of a.version) (as_settings a.settings)) c.put_header-body.ensures.put numbers
