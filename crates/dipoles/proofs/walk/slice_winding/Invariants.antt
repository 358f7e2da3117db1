-- `dipoles::walk::slice_winding` meets its contract. The invariant: `sum` is that of the solid angles so far.
use lib.ListN.{length, get_or}
use lib.Ieee.{binary32}
use Rattle.shapes.specs.Values.{as_point}
use Rattle.spec_lists.specs.Reading.{triangle_at}
use Rattle.spec_angles.proofs.Windings.{Summed}
use Rattle.dipoles.proofs.walk.slice_winding.Given as goal

abbrev pub invariant-loop-t : goal.invariant-loop-t
invariant-loop-t l = Summed binary32 (λ j. triangle_at l.triangles (get_or l.slice j 0)) (as_point l.q) (length l.slice) l.sum l.t-index
