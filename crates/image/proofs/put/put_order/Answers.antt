-- `image::put::put_order` meets its contract: a header, and the entries behind it.
use Rattle.spec_records.proofs.Entries.{length_numbers}
use Rattle.spec_records.proofs.Records.{record_put}
use Rattle.image.proofs.put.put_order.Goals as goal

pub returns-clause-put : goal.returns-clause-put
returns-clause-put c =
    record_put 3 _ (length_numbers _ c.args.order.now 0 _) (rw c.order_size.ensures at c.put_header-body.ensures.put) c.put_entries.ensures.put
