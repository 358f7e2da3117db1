-- `dipoles::sums::with_next` meets its contract: each arm returns what the test picks.
use Rattle.spec_dipoles.specs.Sums.{with_next}
use Rattle.dipoles.proofs.sums.with_next.Goals as goal

pub returns-then-has_normal : goal.returns-then-has_normal
unfolding with_next
returns-then-has_normal c =
    let it = c.triangle_at-triangle.ensures in
    rw (c.with_triangle.ensures, ← it, ← c.has_normal.ensures, c.if-has_normal.true)

pub returns-else-has_normal : goal.returns-else-has_normal
unfolding with_next
returns-else-has_normal c =
    let it = c.triangle_at-triangle.ensures in
    rw (← it, ← c.has_normal.ensures, c.if-has_normal.false)
