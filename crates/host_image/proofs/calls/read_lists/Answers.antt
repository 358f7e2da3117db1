-- `host_image::calls::read_lists` meets its contract: a short list of settings is refused first, else the reader's answer as a status, and its lists.
use mathlib.Core.Path.{refl}
use Prim.Native.Nat.{◌≤◌}
use native.Mathlib.Omega.{arith}
use lib.ListN.{length}
use Rattle.spec_host.proofs.Images.{read_short, read_put, read_placed}
use Rattle.host_image.proofs.calls.read_lists.Goals as goal

pub returns-then-settings-lt3 : goal.returns-then-settings-lt3
returns-then-settings-lt3 c = read_short c.if-settings-lt3.true c.encode_short.ensures refl

pub encode_read-requires : goal.encode_read-requires
encode_read-requires c =
    let a = c.args in
    let three : 3 ≤ length a.settings.now = omega (arith, c.if-settings-lt3.false) in record {
      in_bounds = three;
      read_placed = read_placed a.image.now (record { below = λ i. omega (arith, c.type_inv.image i) })
          (record { settings = a.settings.now; triangles = a.triangles.now; order = a.order.now; links = a.links.now; boxes = a.boxes.now }) three _
          c.read_image-read.ensures.answer;
    }

pub returns : goal.returns
returns c =
    let filled = c.read_image-read.ensures.filled in
    read_put _ (omega (arith, c.if-settings-lt3.false)) c.read_image-read.ensures.answer c.encode_read.ensures.status c.encode_read.ensures.settings
    (record { triangles = filled.triangles; order = filled.order; links = filled.links; boxes = filled.boxes })
