-- `shapes::triangle3::Triangle3::nearest_foot` meets its contract: the feet and the nearer of them, put in.
use Rattle.spec_shapes.specs.Triangles.{nearest_foot}
use Rattle.shapes.proofs.triangle3.Triangle3.nearest_foot.Goals as goal

pub returns : goal.returns
unfolding nearest_foot
returns c =
    rw (c.nearer_foot-2.ensures, c.nearer_foot.ensures, c.foot_spot-on_bc.ensures, c.foot_spot-on_ac.ensures, c.foot_spot-on_ab.ensures)
