-- `shapes::box3::with_outside` meets its contract: what `with_excess` ensures, twice.
use Rattle.spec_shapes.specs.Boxes.{with_outside}
use Rattle.shapes.proofs.box3.with_outside.Goals as goal

pub returns : goal.returns
unfolding with_outside
returns c = rw (c.with_excess-2.ensures, c.with_excess.ensures)
