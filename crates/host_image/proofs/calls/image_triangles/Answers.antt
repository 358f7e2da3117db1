-- `host_image::calls::image_triangles` meets its contract: 10, or the count of the layout.
use mathlib.Core.Path.{sym}
use native.Mathlib.Omega.{arith}
use Rattle.spec_host.proofs.Images.{wrong_refused, right_passes, right_triangles, wrong_placed}
use Rattle.host_image.proofs.calls.image_triangles.Goals as goal

pub encode_refusal-requires : goal.encode_refusal-requires
encode_refusal-requires c =
    rw c.into.ensures (wrong_placed c.args.image.now (record { below = λ i. omega (arith, c.type_inv.image i) }) _ (sym c.in-Err.ensures))

pub returns-in-Ok : goal.returns-in-Ok
returns-in-Ok c =
    let right = sym c.in-Ok.ensures in
    rw (right_passes c.args.image.now _ _ right) (sym (right_triangles c.args.image.now _ _ right))

pub returns-in-Err : goal.returns-in-Err
returns-in-Err c =
    rw (wrong_refused c.args.image.now _ (sym c.in-Err.ensures)) (rw c.into.ensures at c.encode_refusal.ensures)
