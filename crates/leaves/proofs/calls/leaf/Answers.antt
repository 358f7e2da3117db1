-- `leaves::calls::leaf` meets its contract: the refusal, or the k-th leaf of lists that pass.
use mathlib.Core.Path.{sym}
use Rattle.lists.proofs.Rows.{handed}
use Rattle.spec_tree.proofs.Leaves.{passed_there, leaf_refused, leaf_sought}
use Rattle.leaves.proofs.calls.leaf.Goals as goal

pub leaf_from-requires : goal.leaf_from-requires
leaf_from-requires c = passed_there _ _ _ _ _ (sym c.in_ok-check.ensures)

pub returns-in_err-check : goal.returns-in_err-check
returns-in_err-check c = rw (handed _ _ c.from_residual.ensures.1) (leaf_refused _ _ _ _ _ _ _ _ (sym c.in_err-check.ensures))

pub returns : goal.returns
returns c = leaf_sought _ _ _ _ _ _ _ (sym c.in_ok-check.ensures) c.leaf_from.ensures
