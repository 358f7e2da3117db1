-- `angles::arc_tangent::units_of` meets its contract. The constant of the source is 2 ^ 30.
use Rattle.std.proofs.Common.{◌∙◌}
use lib.Ieee.{binary32, of_bits}
use Rattle.spec_angles.proofs.InUnits.{cut_is_in_units}
use Rattle.angles.proofs.arc_tangent.units_of.Goals as goal

pub returns : goal.returns
unfolding of_bits
returns c = c.cut.ensures ∙ cut_is_in_units binary32 c.args.t c.requires
