-- `shapes::triangle3::Triangle3::bbox` meets its contract: what `smallest` and `largest` ensure, twice each.
use Rattle.spec_shapes.specs.Triangles.{box_of}
use Rattle.shapes.proofs.triangle3.Triangle3.bbox.Goals as goal

pub returns : goal.returns
unfolding box_of
returns c = rw (c.largest-2.ensures, c.largest.ensures, c.smallest-2.ensures, c.smallest.ensures)
