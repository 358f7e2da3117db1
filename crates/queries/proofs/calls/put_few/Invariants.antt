-- `queries::calls::put_few` meets its contract. The invariant: the answers to the first k points stand at the front of the list.
use lib.Ieee.{binary32}
use Rattle.spec_search.specs.Rules.{rule_of}
use Rattle.spec_search.specs.Calls.{few_answer}
use Rattle.spec_search.proofs.Calls.{Answered}
use Rattle.queries.proofs.calls.put_few.Given as goal

abbrev pub invariant-loop-k : goal.invariant-loop-k
invariant-loop-k l =
    Answered binary32 l.most (few_answer binary32 (rule_of l.rule) l.most l.drawing.triangles.now l.distance) l.points l.initial.answers l.count l.answers l.k
