-- `image::size::is_short` meets its contract: more nodes than a thirtieth of the room do not fit, and fewer can be multiplied without overflow.
use native.Mathlib.Omega.{arith}
use Prim.Native.Nat.{◌/◌}
use borrow.Author.Tests.{lt-ltb}
use Rattle.spec_records.specs.Layouts.{version_for, image_size}
use Rattle.spec_image.proofs.Versions.{size_least}
use Rattle.image.proofs.size.is_short.Goals as goal

pub returns-then-nodes-given : goal.returns-then-nodes-given
returns-then-nodes-given c =
    let a = c.args in
    let least = size_least a.triangles a.nodes in
    rw (lt-ltb (a.given / 30) a.nodes c.if-nodes-given.true, lt-ltb a.given (image_size (version_for a.triangles) a.triangles a.nodes) (omega arith))
