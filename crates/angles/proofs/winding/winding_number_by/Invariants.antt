-- `angles::winding::winding_number_by` meets its contract. The invariant: `sum` is that of the first t solid angles.
use lib.Ieee.{binary32}
use Rattle.shapes.specs.Values.{as_point}
use Rattle.spec_lists.specs.Reading.{triangle_at}
use Rattle.spec_angles.proofs.Windings.{Summed}
use Rattle.angles.proofs.winding.winding_number_by.Given as goal

abbrev pub invariant-loop-t : goal.invariant-loop-t
invariant-loop-t l = Summed binary32 (triangle_at l.triangles) (as_point l.q) l.t-end l.sum l.t
