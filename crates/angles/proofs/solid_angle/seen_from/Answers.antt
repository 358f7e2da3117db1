-- `angles::solid_angle::seen_from` meets its contract, corner by corner.
use Rattle.spec_angles.specs.Winding.{seen_from}
use Rattle.angles.proofs.solid_angle.seen_from.Goals as goal

pub returns : goal.returns
unfolding seen_from
returns c = λ i. record { a = c.minus.ensures i; b = c.minus-2.ensures i; c = c.minus-3.ensures i }
