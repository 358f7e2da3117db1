-- `angles::arc_tangent::arc_table` hands out the table of the definitions.
use Rattle.std.proofs.Common.{refl}
use Rattle.spec_angles.specs.Table.{arcs}
use Rattle.angles.proofs.arc_tangent.arc_table.Goals as goal

pub invariant_of-result : goal.invariant_of-result
unfolding arcs
invariant_of-result c = record { is_arcs = refl }
