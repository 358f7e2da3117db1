-- `test_leaves::put_tree` is safe and ends: the nodes of lists that pass are there.
use mathlib.Core.Path.{sym}
use Rattle.spec_tree.proofs.Leaves.{counted_there}
use Rattle.test_leaves.proofs.put_tree.Goals as goal

pub put_leaves-requires : goal.put_leaves-requires
put_leaves-requires c = counted_there _ _ _ _ _ _ (sym c.in-Ok.ensures)
