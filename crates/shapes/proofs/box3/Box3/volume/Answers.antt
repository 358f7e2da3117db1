-- `shapes::box3::Box3::volume` meets its contract, of the sizes that `sizes` ensures.
use Rattle.spec_shapes.specs.Boxes.{volume}
use Rattle.shapes.proofs.box3.Box3.volume.Goals as goal

pub returns : goal.returns
unfolding volume
returns c = rw (← c.sizes-d.ensures)
