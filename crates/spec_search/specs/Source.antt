-- The source query: the Rust's tests and its order of visits, the right child first; the smallest by strict comparison.
-- The root is always looked at, so an answer may lie beyond the limit.
use Rattle.std.specs.Prelude.{Bool, true, false, not, cond, ◌||◌, List, ℕ, ◌-◌, Float}
use Rattle.std.specs.Float.{Format, inf}
use Rattle.std.specs.Float.Ieee.{lt}
use Rattle.spec_shapes.specs.Points.{Point}
use Rattle.spec_shapes.specs.Boxes.{box_squared, contains_point}
use Rattle.spec_shapes.specs.Triangles.{closest_spot}
use Rattle.spec_lists.specs.Limits.{deepest}
use Rattle.spec_lists.specs.Reading.{triangle_at}
use Rattle.spec_tree.specs.Trees.{node_box}
use Rattle.spec_search.specs.Answers.{Hit, hit_at, Answer, nothing, found}
use Rattle.spec_search.specs.Walk.{Search, Sought, root_walk}

-- the smallest squared distance so far: infinite before anything is found
abbrev pub smallest : Answer → Float
smallest nothing = inf false
smallest (found k) = k.squared

-- what is measured of triangle t: its computed closest point, and the part whose test answered
unfoldable pub source_hit : Format → List Float → Point → ℕ → Hit
source_hit f triangles p t = hit_at f (closest_spot f (triangle_at triangles t) p) p t

-- the strictly smaller one is kept: among equals, the one that was measured first
unfoldable pub keep_smaller : Hit → Answer → Answer
keep_smaller h k = cond (lt h.squared (smallest k)) (found h) k

unfoldable pub took_source : Format → List Float → Point → ℕ → Answer → Answer
took_source f triangles p t k = keep_smaller (source_hit f triangles p t) k

-- a child is entered if its box holds the point or its squared distance is below the limit squared
unfoldable pub enters : Format → List Float → Point → Float → ℕ → Bool
enters f boxes p limit node = contains_point (node_box boxes node) p || lt (box_squared f (node_box boxes node) p) limit

abbrev pub source_search : Format → List Float → List Float → Point → Float → Search Answer
source_search f triangles boxes p limit =
    record { skipped = λ node k. not (enters f boxes p limit node); right_first = λ l r. true; took = took_source f triangles p }

-- before anything is measured
abbrev pub at_first : Sought Answer
at_first = record { best = nothing; measured = 0 }

unfoldable pub source_walk : Format → List Float → List ℕ → List ℕ → List Float → ℕ → Point → Float → Sought Answer
source_walk f triangles order links boxes nodes p limit = root_walk (source_search f triangles boxes p limit) order links (deepest - 1) (nodes - 1) at_first
