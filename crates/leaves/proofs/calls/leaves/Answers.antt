-- `leaves::calls::leaves` meets its contract: the refusal, or the count over lists that pass.
use mathlib.Core.Path.{sym}
use Rattle.spec_tree.proofs.Leaves.{passed_there, count_refused, count_made}
use Rattle.leaves.proofs.calls.leaves.Goals as goal

pub leaf_count-requires : goal.leaf_count-requires
leaf_count-requires c = (passed_there _ _ _ _ _ (sym c.in-Ok.ensures)).links_there

pub returns-in-Ok : goal.returns-in-Ok
returns-in-Ok c = count_made _ _ _ _ _ _ (sym c.in-Ok.ensures) c.leaf_count.ensures

pub returns-in-Err : goal.returns-in-Err
returns-in-Err c = count_refused _ _ _ _ _ _ _ (sym c.in-Err.ensures)
