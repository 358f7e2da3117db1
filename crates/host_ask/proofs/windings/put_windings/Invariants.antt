-- `host_ask::windings::put_windings` meets its contract. The invariant: the numbers of the first k points stand at the front of the bytes.
use lib.Ieee.{Float}
use Rattle.spec_shapes.specs.Points.{Point}
use Rattle.spec_host.proofs.PointBytes.{NumbersPut}
use Rattle.host_ask.specs.Windings.{Gives, number_at}
use Rattle.host_ask.proofs.windings.put_windings.Given as goal

abbrev pub invariant-loop-k : goal.invariant-loop-k
invariant-loop-k g l =
    (number : Point → Float) → Gives (goal.F-post g l.winding) number
    → NumbersPut (number_at number l.points) l.points l.initial.out l.k-end l.out l.k
