-- `shapes::triangle3::along` meets its contract: what `scale` and then `plus` ensure.
use Rattle.spec_shapes.specs.Triangles.{along}
use Rattle.shapes.proofs.triangle3.along.Goals as goal

pub returns : goal.returns
unfolding along
returns c = rw (c.plus.ensures, c.scale.ensures)
