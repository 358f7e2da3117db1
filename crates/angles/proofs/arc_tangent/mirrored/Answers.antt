-- `angles::arc_tangent::mirrored` meets its contract: each arm is a case of the definition.
use Rattle.spec_angles.specs.Angle.{mirrored}
use Rattle.angles.proofs.arc_tangent.mirrored.Goals as goal

pub returns-then-back : goal.returns-then-back
unfolding mirrored
returns-then-back c = rw c.if-back.true

pub returns-else-back : goal.returns-else-back
unfolding mirrored
returns-else-back c = rw c.if-back.false
