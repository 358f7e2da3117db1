-- `records::layout::gauge_layout` meets its contract: behind two right records `query_layout` goes on, and a wrong one is the first.
use mathlib.Core.Path.{sym, ◌∙◌}
use Rattle.spec_records.specs.Layouts.{query_wants}
use Rattle.std.proofs.lemmas.Result.{err_from_is_err_and}
use Rattle.records.proofs.Answers.{not_opened}
use Rattle.records.proofs.layout.gauge_layout.Goals as goal

pub query_layout-requires : goal.query_layout-requires
query_layout-requires c = sym c.opening_of.ensures ∙ c.in_ok-triangles.was

pub returns-in_err-triangles : goal.returns-in_err-triangles
returns-in_err-triangles c =
    let out = err_from_is_err_and c.from_residual.result c.from_residual.ensures.1 in
    rw (out.1, out.2) (sym (not_opened _ query_wants (sym c.opening_of.ensures ∙ c.in_err-triangles.was)))
