-- `shapes::triangle3::finite_or` meets its contract: each arm returns what the test picks.
use Rattle.spec_shapes.specs.Triangles.{finite_or}
use Rattle.shapes.proofs.triangle3.finite_or.Goals as goal

pub returns-then-is_finite : goal.returns-then-is_finite
unfolding finite_or
returns-then-is_finite c = rw (← c.is_finite.ensures, c.if-is_finite.true)

pub returns-else-is_finite : goal.returns-else-is_finite
unfolding finite_or
returns-else-is_finite c = rw (← c.is_finite.ensures, c.if-is_finite.false)
