-- `shapes::plane3::Plane3::intersects_box3` meets its contract: what each call ensures, put in.
use Rattle.spec_shapes.specs.Planes.{meets_box}
use Rattle.shapes.proofs.plane3.Plane3.intersects_box3.Goals as goal

pub returns : goal.returns
unfolding meets_box
returns c =
    rw (c.absolute.ensures, c.dot.ensures, c.reach_of-reach.ensures, c.minus.ensures, c.centre-centre.ensures)
