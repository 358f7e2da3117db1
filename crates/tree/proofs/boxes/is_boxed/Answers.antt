-- `tree::boxes::is_boxed` meets its contract: the box that is given, beside the one that is stored.
use Rattle.spec_tree.specs.Reasons.{is_boxed}
use Rattle.tree.proofs.boxes.is_boxed.Goals as goal

pub returns : goal.returns
unfolding is_boxed
returns c = rw (← c.given_box.ensures, ← c.node_box.ensures) c.same_box.ensures
