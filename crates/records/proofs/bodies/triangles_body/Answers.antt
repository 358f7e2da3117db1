-- `records::bodies::triangles_body` meets its contract: where whole triangles are there their number must suit the version.
use mathlib.Core.Path.{ap, ◌∙◌}
use native.Mathlib.Omega.{arith}
use Rattle.spec_records.specs.Little.{little_at}
use Rattle.spec_records.specs.Records.{whole}
use Rattle.spec_records.specs.Layouts.{Shape}
use Rattle.spec_records.proofs.Records.{right_within}
use Rattle.spec_records.proofs.Layouts.{triangles_missing, count_decides}
use Rattle.records.proofs.Answers.{is_right_lem, is_wrong}
use Rattle.records.proofs.bodies.triangles_body.Goals as goal

pub returns-in_err-size : goal.returns-in_err-size
returns-in_err-size c =
    let s = c.args.bytes.now in
    rw (triangles_missing (little_at 2 s 6) s 14 (is_wrong 2 (whole 36) s 14 c.whole_body.ensures c.in_err-size.was)) c.from_residual.ensures

pub u16_at-requires : goal.u16_at-requires
u16_at-requires c =
    let s = c.args.bytes.now in
    omega (arith, right_within (is_right_lem 2 (whole 36) s 14 c.whole_body.ensures c.in_ok-size.was))

pub returns : goal.returns
returns c =
    let s = c.args.bytes.now in
    let size = c.in_ok-size.size in
    let right = is_right_lem 2 (whole 36) s 14 c.whole_body.ensures c.in_ok-size.was in
    let kept = c.number.ensures ∙ ap (λ (sh : Shape). sh.version) c.of.ensures in
    let suits = count_decides (little_at 2 s 6) s 14 right in
    rw (suits, right.sized, ← kept, ← c.u16_at.ensures.value) c.then_some.ensures
