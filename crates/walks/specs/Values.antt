-- The queries, hits and answers of the code as the definitions' own. The contracts compare by these.
use Rattle.std.specs.Prelude.{Option, Some, None}
use Rattle.shapes.specs.Values.{as_point}
use Rattle.spec_search.specs.Answers as Answers
use Rattle.spec_search.specs.Walk as Walk
use Rattle.walks.specs.declared.answer.Query.{Query}
use Rattle.walks.specs.declared.answer.Query.TheVariants.{Sure, Few, Source}
use Rattle.walks.specs.declared.answer.Hit.{Hit}
use Rattle.walks.specs.declared.answer.Sought.{Sought}

abbrev pub as_query : Query → Answers.Query
as_query (Sure rule) = Answers.sure rule
as_query (Few rule most) = Answers.few rule most
as_query Source = Answers.source

abbrev pub as_hit : Hit → Answers.Hit
as_hit h = record { point = as_point h.point; squared = h.squared; triangle = h.triangle; part = h.part }

abbrev pub as_answer : Option Hit → Answers.Answer
as_answer None = Answers.nothing
as_answer (Some h) = Answers.found (as_hit h)

abbrev pub as_sought : Sought → Walk.Sought Answers.Answer
as_sought s = record { best = as_answer s.best; measured = s.measured }
