-- `queries::calls::put_source` meets its contract. The invariant: the answers to the first k points stand at the front of the list.
use lib.Ieee.{binary32}
use Rattle.spec_search.specs.Calls.{source_answer}
use Rattle.spec_search.proofs.Calls.{Answered}
use Rattle.queries.proofs.calls.put_source.Given as goal

abbrev pub invariant-loop-k : goal.invariant-loop-k
invariant-loop-k l =
    let d = l.drawing in
    Answered binary32 1 (λ p j. source_answer binary32 d.triangles.now d.order.now d.links.now d.boxes.now d.nodes l.distance p) l.points l.initial.answers
    l.k-end l.answers l.k
