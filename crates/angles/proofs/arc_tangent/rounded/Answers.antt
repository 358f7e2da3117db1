-- `angles::arc_tangent::rounded` meets its contract. The constant of the source is 2 ^ -30.
use lib.Ieee.{binary32, of_bits, of_int}
use Rattle.spec_angles.proofs.Thirtieth.{rounds_once, rounds_once_negated}
use Rattle.angles.proofs.arc_tangent.rounded.Goals as goal

pub returns-then-negative : goal.returns-then-negative
unfolding of_bits of_int
returns-then-negative c =
    rw (c.nearest_u32_to_f32-r.ensures, c.if-negative.true) (rounds_once_negated binary32 c.args.a c.ranges.a.fits)

pub returns-else-negative : goal.returns-else-negative
unfolding of_bits of_int
returns-else-negative c =
    rw (c.nearest_u32_to_f32-r.ensures, c.if-negative.false) (rounds_once binary32 c.args.a c.ranges.a.fits)
