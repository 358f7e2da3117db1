-- `host_ask::point_queries::put_answers` meets its contract: the sure query's answer is the first of one, and the source's is its only one.
use mathlib.Core.Path.{ap, ◌∙◌}
use mathlib.Core.List.{List}
use Prim.Native.Nat.{ℕ}
use lib.Ieee.{binary32}
use Rattle.spec_tables.specs.Tables.{overwrite}
use Rattle.spec_search.specs.Rules.{rule_of}
use Rattle.spec_search.proofs.Calls.{one_is_sure}
use Rattle.spec_host.proofs.PointBytes.{answer_bytes_same}
use Rattle.host_ask.proofs.point_queries.put_answers.Goals as goal

pub returns-in-Sure : goal.returns-in-Sure
returns-in-Sure c =
    let a = c.args in
    rw c.in-Sure.is
    (c.put_few.ensures
    ∙ ap (λ (new : List ℕ). overwrite 0 new a.answers.now)
    (answer_bytes_same 1 _ _ a.points.now (one_is_sure binary32 (rule_of _) a.drawing.now.triangles.now a.distance)))
