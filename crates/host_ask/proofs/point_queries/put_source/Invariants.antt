-- `host_ask::point_queries::put_source` meets its contract: a turn writes the answer at one point more (`Answered`).
use lib.Ieee.{binary32}
use Rattle.spec_search.specs.Calls.{source_answer}
use Rattle.spec_host.proofs.PointBytes.{Answered}
use Rattle.host_ask.proofs.point_queries.put_source.Given as goal

abbrev pub invariant-loop-k : goal.invariant-loop-k
invariant-loop-k l =
    let d = l.drawing in
    Answered 1 (λ p j. source_answer binary32 d.triangles.now d.order.now d.links.now d.boxes.now d.nodes l.distance p) l.points l.initial.answers l.count
    l.answers l.k
