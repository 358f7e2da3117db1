-- `angles::winding::put_windings` meets its contract. The invariant: the numbers of the first k points stand in `out`.
use lib.Ieee.{Float}
use Rattle.spec_shapes.specs.Points.{Point}
use Rattle.spec_angles.proofs.Windings.{AboutPut}
use Rattle.angles.specs.Windings.{Gives}
use Rattle.angles.proofs.winding.put_windings.Given as goal

abbrev pub invariant-loop-k : goal.invariant-loop-k
invariant-loop-k g l =
    (number : Point → Float) → Gives (goal.F-post g l.winding) number → AboutPut number l.points l.initial.out l.k-end l.out l.k
