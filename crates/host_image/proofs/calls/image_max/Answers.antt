-- `host_image::calls::image_max` meets its contract: no triangles and too many have no image.
use Rattle.std.proofs.Common.{arith}
use Rattle.std.proofs.lemmas.Bool.Decides.{nat_tests}
use Rattle.spec_host.specs.Images.{image_max}
use Rattle.host_image.proofs.calls.image_max.Goals as goal

pub returns-then-contains : goal.returns-then-contains
unfolding image_max
returns-then-contains c =
    let cases = c.contains.ensures.cases in
    let size = c.image_size.ensures in
    grind (arith, nat_tests)

pub returns-else-contains : goal.returns-else-contains
unfolding image_max
returns-else-contains c =
    let cases = c.contains.ensures.cases in
    grind (arith, nat_tests)
