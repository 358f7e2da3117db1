-- `host_image::statuses::encode_short` meets its contract: 10 comes before 6.
use mathlib.Core.Path.{sym}
use native.Mathlib.Omega.{arith}
use Rattle.spec_lists.specs.Refusals.{first_refusal}
use Rattle.spec_host.specs.Images.{short_refusal}
use Rattle.spec_host.proofs.Images.{wrong_refused, right_passes, wrong_placed}
use Rattle.host_image.proofs.statuses.encode_short.Goals as goal

pub encode_refusal-requires-in-Err : goal.encode_refusal-requires-in-Err
encode_refusal-requires-in-Err c =
    rw c.into.ensures (wrong_placed c.args.image.now (record { below = λ i. omega (arith, c.type_inv.image i) }) _ (sym c.in-Err.ensures))

pub returns-in-Ok : goal.returns-in-Ok
unfolding short_refusal first_refusal
returns-in-Ok c = rw (right_passes c.args.image.now _ _ (sym c.in-Ok.ensures)) c.encode_refusal.ensures

pub returns-in-Err : goal.returns-in-Err
unfolding short_refusal first_refusal
returns-in-Err c =
    rw (wrong_refused c.args.image.now _ (sym c.in-Err.ensures)) (rw c.into.ensures at c.encode_refusal-in-Err.ensures)
