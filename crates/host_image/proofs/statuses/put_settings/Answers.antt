-- `host_image::statuses::put_settings` meets its contract: what is copied to the front overwrites it.
use Rattle.spec_tables.specs.Tables.{overwrite}
use Rattle.host_image.proofs.statuses.put_settings.Goals as goal

pub returns : goal.returns
unfolding overwrite
returns c = rw c.copy_from_slice.ensures.after
