-- `tree::boxes::same_box` meets its contract: what `same_point` ensures of both corners.
use mathlib.Core.Bool.{◌&&◌}
use Rattle.spec_tree.specs.Accepted.{same_box}
use Rattle.tree.proofs.boxes.same_box.Goals as goal

pub returns : goal.returns
unfolding same_box
returns c = λ i. c.same_point.ensures i && c.same_point-2.ensures i
