-- `shapes::triangle3::Triangle3::foot_spot` meets its contract: the foot and its part, put together.
use Rattle.spec_shapes.specs.Triangles.{foot_spot}
use Rattle.shapes.proofs.triangle3.Triangle3.foot_spot.Goals as goal

pub returns : goal.returns
unfolding foot_spot
returns c = rw (c.foot_part.ensures, c.held_foot.ensures)
