-- `shapes::triangle3::Triangle3::closest_spot` meets its contract: the dots, the part by them, and the point on that part.
use Rattle.spec_shapes.specs.Triangles.{closest_spot}
use Rattle.shapes.proofs.triangle3.Triangle3.closest_spot.Goals as goal

pub returns : goal.returns
unfolding closest_spot
returns c = rw (c.point_on.ensures, c.part-part.ensures, c.dots-d.ensures)
