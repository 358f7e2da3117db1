-- `records::bodies::has_settings` meets its contract: where settings of the right size are there the version decides.
use mathlib.Core.Path.{sym, ap, ◌∙◌}
use native.Mathlib.Omega.{arith}
use Rattle.spec_records.specs.Layouts.{is_known}
use Rattle.spec_records.proofs.Records.{right_within}
use Rattle.spec_records.proofs.Layouts.{exactly_right, settings_missing, version_decides}
use Rattle.records.proofs.bodies.has_settings.Goals as goal

pub u16_at-requires : goal.u16_at-requires
u16_at-requires c =
    omega (arith, right_within (exactly_right 1 8 c.args.bytes.now 0 (sym c.if-has_body.ensures)))

pub returns-then-has_body : goal.returns-then-has_body
returns-then-has_body c =
    let s = c.args.bytes.now in
    c.is_known.ensures ∙ ap is_known c.u16_at.ensures.value
    ∙ sym (version_decides s (sym c.if-has_body.ensures))

pub returns-else-has_body : goal.returns-else-has_body
returns-else-has_body c = c.if-has_body.false ∙ sym (settings_missing c.args.bytes.now (sym c.if-has_body.ensures))
