-- The sure query: which answer is better; and the scan of all triangles, which is what the query means. What counts goes by the rule that the limit is
-- read by.
use Rattle.std.specs.Prelude.{Bool, true, cond, ◌&&◌, List, ℕ, Float}
use Rattle.std.specs.Float.{Format}
use Rattle.spec_shapes.specs.Points.{Point}
use Rattle.spec_shapes.specs.Triangles.{held_spot}
use Rattle.spec_lists.specs.Reading.{triangle_at, triangle_count}
use Rattle.spec_tree.specs.Order.{range}
use Rattle.spec_search.specs.Answers.{Hit, squared_of, number_of, hit_at, Answer, nothing, found}
use Rattle.spec_search.specs.Rules.{Limit, counts}
use Rattle.spec_search.specs.Ranked.{before}
use Rattle.spec_search.specs.Walk.{fold}

-- h is smaller than what is kept, or level with it at a lower number; the part has no say
abbrev pub better : Hit → Answer → Bool
better h nothing = true
better h (found k) = before squared_of number_of h k

-- what is kept once h is offered
unfoldable pub offered : Limit → Hit → Answer → Answer
offered limit h k = cond (counts limit h.squared && better h k) (found h) k

module _ (f : Format) (triangles : List Float) (p : Point) where
  -- what is measured of triangle t: its held point, and its part
  unfoldable pub hit : ℕ → Hit
  hit t = hit_at f (held_spot f (triangle_at triangles t) p) p t

  unfoldable pub took_sure : Limit → ℕ → Answer → Answer
  took_sure limit t k = offered limit (hit t) k

  -- the best of all triangles, in the order of their numbers
  unfoldable pub scan : Limit → Answer
  scan limit = fold (took_sure limit) (range (triangle_count triangles)) nothing
