-- `image::size::image_size` meets its contract: the sizes of the four records, by the version.
use native.Mathlib.Omega.{arith}
use Rattle.image.proofs.Versions.{same_float}
use Rattle.image.proofs.size.image_size.Goals as goal

pub returns : goal.returns
returns c =
    let float = same_float c.of-version.result in
    rw (← c.of-version.ensures, float) (omega (arith, rw float at c.nodes_size.ensures))
