-- `tree::calls::tree_refusal` meets its contract: 71, then 72, then the nodes of lists that passed both.
use mathlib.Core.Path.{subst, sym}
use Prim.Native.Nat.{ℕ}
use native.Mathlib.Omega.{arith}
use Rattle.lists.proofs.Rows.{handed_on, refused_first, passed_first}
use Rattle.spec_tree.specs.Order.{EntriesBelow}
use Rattle.spec_tree.specs.Reasons.{reason}
use Rattle.spec_tree.specs.Refusals.{tree_refusal}
use Rattle.spec_tree.proofs.Order.{test_permutes, permutes_entries, permutes_length}
use Rattle.spec_tree.proofs.NewEntries.{order_passed}
use Rattle.spec_tree.proofs.Counted.{count_passed}
use Rattle.tree.proofs.calls.tree_refusal.Goals as goal

pub returns-in_err-order_refusal : goal.returns-in_err-order_refusal
unfolding tree_refusal reason
returns-in_err-order_refusal c =
    rw (← c.triangle_count-n.ensures)
    (handed_on _ _ _ c.from_residual.ensures.1 (refused_first _ _ _ _ c.in_err-order_refusal.ensures))

pub returns-in_err-count_refusal : goal.returns-in_err-count_refusal
unfolding tree_refusal reason
returns-in_err-count_refusal c =
    rw (← c.triangle_count-n.ensures)
    (handed_on _ _ _ c.from_residual-in_err-count_refusal.ensures.1
    (passed_first _ _ _ c.in_ok-order_refusal.ensures (refused_first _ _ _ _ c.in_err-count_refusal.ensures)))

pub nodes_refusal-requires : goal.nodes_refusal-requires
nodes_refusal-requires c =
    let order = c.args.drawing.now.order.now in
    let permuted = test_permutes c.triangle_count-n.result order (order_passed _ _ (sym c.in_ok-order_refusal.ensures)) in
    let count = count_passed _ _ _ _ (sym c.in_ok-count_refusal.ensures) in
    record {
      some = count.some;
      links_there = count.links_there;
      boxes_there = count.boxes_there;
      long = omega (arith, permutes_length _ _ permuted);
      entries = subst (λ (n : ℕ). EntriesBelow n order) c.triangle_count-n.ensures (permutes_entries _ _ permuted);
    }

pub returns : goal.returns
unfolding tree_refusal reason
returns c =
    rw (← c.triangle_count-n.ensures)
    (passed_first _ _ _ c.in_ok-order_refusal.ensures (passed_first _ _ _ c.in_ok-count_refusal.ensures c.nodes_refusal.ensures))
