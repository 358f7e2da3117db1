-- `records::layout::query_layout` meets its contract: each return is a place that the definition reaches (`Reached`).
use mathlib.Core.Path.{sym, ap, ◌∙◌}
use native.Mathlib.Omega.{arith}
use Rattle.spec_records.specs.Records.{bodies, whole}
use Prim.Native.Nat.{◌+◌}
use Rattle.spec_records.specs.Layouts.{query_wants}
use Rattle.spec_records.proofs.Records.{right_within, reach_on, reach_wrong, reach_end, reach_extra, reach_left_out, reach_wanted}
use Rattle.spec_records.proofs.Layouts.{exactly_right, whole_size, triangles_whole, opened, gauge_spans_lem, ruled_spans}
use Rattle.std.proofs.lemmas.Result.{err_from_is_err_and}
use Rattle.records.proofs.Answers.{is_right_lem, is_wrong, refused_at, is_opened, rule_next}
use Rattle.records.proofs.layout.query_layout.Goals as goal

pub overflow_add-third : goal.overflow_add-third
overflow_add-third c =
    let s = c.args.bytes.now in
    omega (arith, right_within (is_opened s c.requires).triangles)

pub returns-in_err-points : goal.returns-in_err-points
returns-in_err-points c =
    let s = c.args.bytes.now in
    let o = is_opened s c.requires in
    let front = opened query_wants o.settings o.triangles in
    let out = err_from_is_err_and c.from_residual.result c.from_residual.ensures.1 in
    rw (out.1, out.2, refused_at c.in_err-points.ensures.value c.in_err-points.ensures.ok_part)
    (sym (reach_wrong front (is_wrong 5 (whole 12) s _ c.whole_body.ensures c.in_err-points.ensures.ok_part)))

pub overflow_add-fourth : goal.overflow_add-fourth
overflow_add-fourth c =
    let s = c.args.bytes.now in
    omega (arith, right_within (is_right_lem 5 (whole 12) s _ c.whole_body.ensures c.in_ok-points.ensures.ok_part))

pub overflow_add-fourth-2 : goal.overflow_add-fourth-2
overflow_add-fourth-2 c =
    let s = c.args.bytes.now in
    omega (arith, right_within (is_right_lem 5 (whole 12) s _ c.whole_body.ensures c.in_ok-points.ensures.ok_part))

pub returns-then-not-has_body : goal.returns-then-not-has_body
returns-then-not-has_body c =
    let s = c.args.bytes.now in
    let size = c.args.triangles in
    let o = is_opened s c.requires in
    let front = opened query_wants o.settings o.triangles in
    let points = is_right_lem 5 (whole 12) s (20 + size) c.whole_body.ensures c.in_ok-points.ensures.ok_part in
    sym (reach_wrong (reach_on front points) (sym c.has_body.ensures ∙ c.if-not-has_body.true))

pub overflow_add-fifth : goal.overflow_add-fifth
overflow_add-fifth c =
    let s = c.args.bytes.now in
    omega (arith, right_within (exactly_right 6 4 s _ (sym c.has_body.ensures ∙ c.if-not-has_body.false)))

pub overflow_add-fifth-2 : goal.overflow_add-fifth-2
overflow_add-fifth-2 c =
    let s = c.args.bytes.now in
    omega (arith, right_within (exactly_right 6 4 s _ (sym c.has_body.ensures ∙ c.if-not-has_body.false)))

pub returns-then-fifth-bytes : goal.returns-then-fifth-bytes
returns-then-fifth-bytes c =
    let s = c.args.bytes.now in
    let size = c.args.triangles in
    let points = is_right_lem 5 (whole 12) s (20 + size) c.whole_body.ensures c.in_ok-points.ensures.ok_part in
    let next = rule_next c.requires points (sym c.has_body.ensures ∙ c.if-not-has_body.false) in
    ap bodies (gauge_spans_lem size _ (triangles_whole _ s 14 (is_opened s c.requires).triangles) (whole_size 12 points))
    ∙ sym (reach_left_out next c.if-fifth-bytes.true)

pub returns-then-not-has_body-2 : goal.returns-then-not-has_body-2
returns-then-not-has_body-2 c =
    let s = c.args.bytes.now in
    let size = c.args.triangles in
    let points = is_right_lem 5 (whole 12) s (20 + size) c.whole_body.ensures c.in_ok-points.ensures.ok_part in
    let next = rule_next c.requires points (sym c.has_body.ensures ∙ c.if-not-has_body.false) in
    sym (reach_wrong (reach_wanted next c.if-fifth-bytes.false) (sym c.has_body-2.ensures ∙ c.if-not-has_body-2.true))

pub overflow_add-end : goal.overflow_add-end
overflow_add-end c =
    let s = c.args.bytes.now in
    omega (arith, right_within (exactly_right 7 2 s _ (sym c.has_body-2.ensures ∙ c.if-not-has_body-2.false)))

pub overflow_add-end-2 : goal.overflow_add-end-2
overflow_add-end-2 c =
    let s = c.args.bytes.now in
    omega (arith, right_within (exactly_right 7 2 s _ (sym c.has_body-2.ensures ∙ c.if-not-has_body-2.false)))

pub returns-then-end-bytes : goal.returns-then-end-bytes
returns-then-end-bytes c =
    let s = c.args.bytes.now in
    let size = c.args.triangles in
    let points = is_right_lem 5 (whole 12) s (20 + size) c.whole_body.ensures c.in_ok-points.ensures.ok_part in
    let next = rule_next c.requires points (sym c.has_body.ensures ∙ c.if-not-has_body.false) in
    let rule = exactly_right 7 2 s _ (sym c.has_body-2.ensures ∙ c.if-not-has_body-2.false) in
    sym (reach_extra (reach_on (reach_wanted next c.if-fifth-bytes.false) rule) c.if-end-bytes.true)

pub returns : goal.returns
returns c =
    let s = c.args.bytes.now in
    let size = c.args.triangles in
    let points = is_right_lem 5 (whole 12) s (20 + size) c.whole_body.ensures c.in_ok-points.ensures.ok_part in
    let next = rule_next c.requires points (sym c.has_body.ensures ∙ c.if-not-has_body.false) in
    let rule = exactly_right 7 2 s _ (sym c.has_body-2.ensures ∙ c.if-not-has_body-2.false) in
    ap bodies (ruled_spans size _ (triangles_whole _ s 14 (is_opened s c.requires).triangles) (whole_size 12 points))
    ∙ sym (reach_end (reach_on (reach_wanted next c.if-fifth-bytes.false) rule) c.if-end-bytes.false)
