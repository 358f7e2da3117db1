-- `tree::boxes::same_point` meets its contract: what `same` ensures on each axis.
use mathlib.Core.Bool.{◌&&◌}
use Rattle.tree.proofs.boxes.same_point.Goals as goal

pub returns : goal.returns
returns c = λ i. c.same.ensures i && c.same-2.ensures i && c.same-3.ensures i
