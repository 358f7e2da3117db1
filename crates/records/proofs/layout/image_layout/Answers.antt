-- `records::layout::image_layout` meets its contract: behind two right records `tree_layout` goes on, and a wrong one is the first.
use mathlib.Core.Path.{sym, ap, ◌∙◌}
use Prim.Native.Nat.{◌*◌, ◌/◌}
use Rattle.spec_records.specs.Layouts.{Shape, node_size}
use Rattle.std.proofs.lemmas.Result.{err_from_is_err_and}
use Rattle.records.proofs.Answers.{not_opened}
use Rattle.records.proofs.layout.image_layout.Goals as goal

pub tree_layout-requires : goal.tree_layout-requires
tree_layout-requires c =
    let count = c.in_ok-triangles.triangles / 36 in
    let picked = c.of-version.ensures in
    record {
      front = sym c.opening_of.ensures ∙ c.in_ok-triangles.was;
      order_is = c.order_size.ensures ∙ ap (λ (sh : Shape). sh.entry * count) picked;
      node_is = c.node_size.ensures ∙ ap node_size picked;
    }

pub returns-in_err-triangles : goal.returns-in_err-triangles
returns-in_err-triangles c =
    let out = err_from_is_err_and c.from_residual.result c.from_residual.ensures.1 in
    rw (out.1, out.2) (sym (not_opened _ _ (sym c.opening_of.ensures ∙ c.in_err-triangles.was)))
