-- `records::layout::tree_layout` meets its contract: each return is a place that the definition reaches (`Reached`).
use mathlib.Core.Path.{sym, ap, ◌∙◌}
use native.Mathlib.Omega.{arith}
use Rattle.spec_records.specs.Records.{bodies, whole}
use Prim.Native.Nat.{◌+◌}
use Rattle.spec_records.proofs.Records.{right_within, reach_on, reach_wrong, reach_end, reach_extra}
use Rattle.spec_records.proofs.Layouts.{exactly_right, whole_size}
use Rattle.std.proofs.lemmas.Result.{err_from_is_err_and}
use Rattle.records.proofs.Answers.{is_right_lem, is_wrong, refused_at, is_opened, tree_next, tree_spans}
use Rattle.records.proofs.layout.tree_layout.Goals as goal

pub overflow_add-third : goal.overflow_add-third
overflow_add-third c =
    let s = c.args.bytes.now in
    omega (arith, right_within (is_opened s c.requires.front).triangles)

pub returns-then-not-has_body : goal.returns-then-not-has_body
returns-then-not-has_body c =
    sym (reach_wrong (tree_next c.requires) (sym c.has_body.ensures ∙ c.if-not-has_body.true))

pub overflow_add-fourth : goal.overflow_add-fourth
overflow_add-fourth c =
    let a = c.args in
    omega (
      arith,
      right_within (exactly_right 3 a.order a.bytes.now (20 + a.triangles)
          (sym c.has_body.ensures ∙ c.if-not-has_body.false)),
    )

pub overflow_add-fourth-2 : goal.overflow_add-fourth-2
overflow_add-fourth-2 c =
    let a = c.args in
    omega (
      arith,
      right_within (exactly_right 3 a.order a.bytes.now (20 + a.triangles)
          (sym c.has_body.ensures ∙ c.if-not-has_body.false)),
    )

pub returns-in_err-nodes : goal.returns-in_err-nodes
returns-in_err-nodes c =
    let a = c.args in
    let s = a.bytes.now in
    let order = exactly_right 3 a.order s (20 + a.triangles) (sym c.has_body.ensures ∙ c.if-not-has_body.false) in
    let out = err_from_is_err_and c.from_residual.result c.from_residual.ensures.1 in
    rw (out.1, out.2, refused_at c.in_err-nodes.ensures.value c.in_err-nodes.ensures.ok_part)
    (sym (reach_wrong (reach_on (tree_next c.requires) order)
    (is_wrong 4 (whole a.node) s _ c.whole_body.ensures c.in_err-nodes.ensures.ok_part)))

pub overflow_add-end : goal.overflow_add-end
overflow_add-end c =
    let a = c.args in
    omega (arith, right_within (is_right_lem 4 (whole a.node) a.bytes.now _ c.whole_body.ensures c.in_ok-nodes.ensures.ok_part))

pub overflow_add-end-2 : goal.overflow_add-end-2
overflow_add-end-2 c =
    let a = c.args in
    omega (arith, right_within (is_right_lem 4 (whole a.node) a.bytes.now _ c.whole_body.ensures c.in_ok-nodes.ensures.ok_part))

pub returns-then-end-bytes : goal.returns-then-end-bytes
returns-then-end-bytes c =
    let a = c.args in
    let s = a.bytes.now in
    let order = exactly_right 3 a.order s (20 + a.triangles) (sym c.has_body.ensures ∙ c.if-not-has_body.false) in
    let nodes = is_right_lem 4 (whole a.node) s _ c.whole_body.ensures c.in_ok-nodes.ensures.ok_part in
    sym (reach_extra (reach_on (reach_on (tree_next c.requires) order) nodes) c.if-end-bytes.true)

pub returns : goal.returns
returns c =
    let a = c.args in
    let s = a.bytes.now in
    let order = exactly_right 3 a.order s (20 + a.triangles) (sym c.has_body.ensures ∙ c.if-not-has_body.false) in
    let nodes = is_right_lem 4 (whole a.node) s _ c.whole_body.ensures c.in_ok-nodes.ensures.ok_part in
    ap bodies (tree_spans c.requires _ (whole_size a.node nodes))
    ∙ sym (reach_end (reach_on (reach_on (tree_next c.requires) order) nodes) c.if-end-bytes.false)
