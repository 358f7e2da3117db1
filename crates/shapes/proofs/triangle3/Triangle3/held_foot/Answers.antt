-- `shapes::triangle3::Triangle3::held_foot` meets its contract: what each call ensures, put in.
use Rattle.spec_shapes.specs.Triangles.{held_foot}
use Rattle.shapes.proofs.triangle3.Triangle3.held_foot.Goals as goal

pub returns : goal.returns
unfolding held_foot
returns c = rw (c.hold.ensures, c.finite_or.ensures, c.foot.ensures, c.bbox.ensures)
