-- `tree::calls::check` meets its contract: the first of the two tests that refuses.
use mathlib.Core.Path.{sym}
use Rattle.lists.proofs.Rows.{handed_on, refused_first, passed_first, last}
use Rattle.spec_lists.proofs.Passed.{triangles_passed}
use Rattle.spec_tree.specs.Refusals.{check_refusal}
use Rattle.tree.proofs.calls.check.Goals as goal

pub returns-in_err-triangles_refusal : goal.returns-in_err-triangles_refusal
unfolding check_refusal
returns-in_err-triangles_refusal c =
    handed_on _ _ _ c.from_residual.ensures.1 (refused_first _ _ _ _ c.in_err-triangles_refusal.ensures)

pub tree_refusal-requires : goal.tree_refusal-requires
tree_refusal-requires c = (triangles_passed _ (sym c.in_ok-triangles_refusal.ensures)).few

pub returns : goal.returns
unfolding check_refusal
returns c = passed_first _ _ _ c.in_ok-triangles_refusal.ensures (last _ _ c.tree_refusal.ensures)
