-- `angles::arc_tangent::arc_tangent` meets its contract: the size of the angle, rounded once, with the sign of n.
use Rattle.std.proofs.Common.{refl, arith}
use lib.Ieee.{binary32, of_bits}
use Rattle.spec_angles.specs.Angle.{arc_tangent}
use Rattle.spec_angles.proofs.Arc.{angle_most}
use Rattle.angles.proofs.arc_tangent.arc_tangent.Goals as goal

pub overflow_cast-angle_of : goal.overflow_cast-angle_of
overflow_cast-angle_of c = omega (arith, angle_most binary32 _ _ c.requires, c.angle_of.ensures)

pub returns : goal.returns
unfolding of_bits arc_tangent
returns c = rw (c.rounded.ensures, c.angle_of.ensures) refl
