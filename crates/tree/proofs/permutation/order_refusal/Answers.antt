-- `tree::permutation::order_refusal` meets its contract: two tests in a row.
use mathlib.Core.Path.{ap, ◌∙◌}
use mathlib.Core.Bool.{not}
use Prim.Native.Nat.{ℕ}
use lib.Dec.{ltb, eqb}
use lib.ListN.{length}
use Rattle.spec_lists.specs.Refusals.{refused_if}
use Rattle.spec_tree.specs.Reasons.{refused_where, order_refusal}
use Rattle.lists.proofs.Rows.{handed_on, refused_first, passed_first, last}
use Rattle.tree.proofs.permutation.order_refusal.Goals as goal

pub returns-in_err-refused_if : goal.returns-in_err-refused_if
unfolding refused_where order_refusal
returns-in_err-refused_if c =
    let long = length c.args.order.now in
    handed_on _ _ _ c.from_residual.ensures.1 (refused_first _ _ _ _
    (c.in_err-refused_if.ensures ∙ ap (λ (k : ℕ). refused_if (ltb k long) 71 k) c.first_bad_entry-place.ensures))

pub returns : goal.returns
unfolding refused_where order_refusal
returns c =
    let long = length c.args.order.now in
    passed_first _ _ _ (c.in_ok-refused_if.ensures ∙ ap (λ (k : ℕ). refused_if (ltb k long) 71 k) c.first_bad_entry-place.ensures)
    (last _ _ (c.refused_if-2.ensures ∙ ap (refused_if (not (eqb long c.args.n)) 71) c.min.ensures))
