-- `shapes::box3::Box3::union_box` meets its contract: what `smallest` and `largest` ensure.
use Rattle.spec_shapes.specs.Boxes.{union}
use Rattle.shapes.proofs.box3.Box3.union_box.Goals as goal

pub returns : goal.returns
unfolding union
returns c = λ i. record { min = c.smallest.ensures i; max = c.largest.ensures i }
