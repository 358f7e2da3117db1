-- `tree::boxes::first_unlike` meets its contract: what was found before stays the first; where nothing was, the node is looked at.
use mathlib.Core.Path.{sym, ◌∙◌}
use Rattle.spec_tree.proofs.Failing.{one_found, one_holds, one_fails}
use Rattle.tree.proofs.boxes.first_unlike.Goals as goal

pub returns-then-unlike-node : goal.returns-then-unlike-node
returns-then-unlike-node c =
    one_found _ _ _ c.requires.before c.if-unlike-node.true

pub returns-then-is_boxed : goal.returns-then-is_boxed
returns-then-is_boxed c =
    one_holds _ _ _ c.requires.before c.if-unlike-node.false (sym c.is_boxed.ensures ∙ c.if-is_boxed.true)

pub returns : goal.returns
returns c =
    one_fails _ _ _ c.requires.before c.if-unlike-node.false (sym c.is_boxed.ensures ∙ c.if-is_boxed.false)
