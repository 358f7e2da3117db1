-- `leaves::calls::leaf_entry` meets its contract: the refusal, no leaf, or an entry of the leaf.
use mathlib.Core.Path.{sym, ap, ◌∙◌}
use Rattle.lists.proofs.Rows.{handed}
use Rattle.spec_tree.proofs.Leaves.{entry_none, entry_read, entry_refused_lem}
use Rattle.leaves.specs.Values.{as_leaf_option}
use Rattle.leaves.proofs.calls.leaf_entry.Goals as goal

pub returns-in-None : goal.returns-in-None
returns-in-None c = entry_none _ _ _ _ _ _ _ (sym c.in_ok-found.ensures ∙ ap as_leaf_option c.in-None.is)

pub returns-in-Some : goal.returns-in-Some
returns-in-Some c = entry_read _ _ _ _ _ _ _ _ _ (sym c.in_ok-found.ensures ∙ ap as_leaf_option c.in-Some.is) c.entry_of.ensures

pub returns-in_err-found : goal.returns-in_err-found
returns-in_err-found c = rw (handed _ _ c.from_residual.ensures.1) (entry_refused_lem _ _ _ _ _ _ _ _ _ (sym c.in_err-found.ensures))
