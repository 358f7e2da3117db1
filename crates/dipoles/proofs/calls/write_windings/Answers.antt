-- `dipoles::calls::write_windings` meets its contract: the numbers that are computed are those by dipoles.
use lib.Ieee.{binary32}
use Rattle.std.proofs.Common.{rules}
use Rattle.spec_dipoles.specs.Calls.{fast_about, fast_windings}
use Rattle.dipoles.proofs.calls.write_windings.Goals as goal

pub returns : goal.returns
unfolding fast_windings
returns c =
    let a = c.args in
    let d = a.drawing.now in
    c.put_windings.ensures (fast_about binary32 d.triangles.now d.order.now d.links.now d.nodes a.sums.now a.accuracy) (λ p r e. search rules)
