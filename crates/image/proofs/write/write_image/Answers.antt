-- `image::write::write_image` meets its contract: the tests, then the image.
use Rattle.lists.proofs.Rows.{handed}
use Rattle.image.proofs.Versions.{version_counted}
use Rattle.image.proofs.Wrote.{wrote_nothing, can_put, wrote_image}
use Rattle.image.proofs.write.write_image.Goals as goal

pub returns-in_err-write_refusal : goal.returns-in_err-write_refusal
returns-in_err-write_refusal c =
    wrote_nothing _ _ _ _ (handed _ _ c.from_residual.ensures.1) c.in_err-write_refusal.ensures

pub put_image-requires : goal.put_image-requires
put_image-requires c =
    let version = version_counted _ c.of-version.ensures c.triangle_count.ensures in
    let fits = can_put _ _ c.in_ok-write_refusal.ensures in
    rw version (record { complete = fits.0; nodes_in_bounds = fits.1 })

pub returns : goal.returns
returns c =
    let version = version_counted _ c.of-version.ensures c.triangle_count.ensures in
    wrote_image _ _ c.in_ok-write_refusal.ensures (rw version at c.put_image.ensures.put) (rw version at c.put_image.ensures.value)
