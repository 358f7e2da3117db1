-- `host_ask::point_queries::put_few` meets its contract. The invariant: the answers to the first k points stand at the front of the bytes.
use lib.Ieee.{binary32}
use Rattle.spec_search.specs.Rules.{rule_of}
use Rattle.spec_search.specs.Calls.{few_answer}
use Rattle.spec_host.proofs.PointBytes.{Answered}
use Rattle.host_ask.proofs.point_queries.put_few.Given as goal

abbrev pub invariant-loop-k : goal.invariant-loop-k
invariant-loop-k l =
    Answered l.most (few_answer binary32 (rule_of l.rule) l.most l.drawing.triangles.now l.distance) l.points l.initial.answers l.count l.answers l.k
