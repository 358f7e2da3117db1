-- `shapes::triangle3::nearer_foot` meets its contract: each arm returns what the test picks.
use Rattle.spec_shapes.specs.Triangles.{nearer_foot}
use Rattle.shapes.proofs.triangle3.nearer_foot.Goals as goal

pub returns-then-squared_distance : goal.returns-then-squared_distance
unfolding nearer_foot
returns-then-squared_distance c = rw (← c.squared_distance-2.ensures, ← c.squared_distance.ensures, c.if-squared_distance.true)

pub returns-else-squared_distance : goal.returns-else-squared_distance
unfolding nearer_foot
returns-else-squared_distance c = rw (← c.squared_distance-2.ensures, ← c.squared_distance.ensures, c.if-squared_distance.false)
