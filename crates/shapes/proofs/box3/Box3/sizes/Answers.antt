-- `shapes::box3::Box3::sizes` meets its contract: what `minus` ensures.
use Rattle.spec_shapes.specs.Boxes.{sizes}
use Rattle.shapes.proofs.box3.Box3.sizes.Goals as goal

pub returns : goal.returns
unfolding sizes
returns c = c.minus.ensures
