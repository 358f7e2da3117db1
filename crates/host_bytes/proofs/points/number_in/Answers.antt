-- `host_bytes::points::number_in` meets its contract: the number that the four bytes stand for.
use mathlib.Core.Path.{sym, ◌∙◌}
use native.Mathlib.Omega.{arith}
use Rattle.spec_host.proofs.PointBytes.{number_is}
use Rattle.host_bytes.proofs.points.number_in.Goals as goal

pub returns : goal.returns
returns c =
    let a = c.args in
    c.f32_at.ensures ∙ sym (number_is a.bytes.now a.i (omega arith))
