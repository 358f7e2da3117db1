-- Building a drawing for a C host, into the lists that it lends: the contract of the call.
use Rattle.std.specs.Prelude.{ℕ, ◌≡◌, List, Float}
use Rattle.std.specs.Float.{binary32}
use Rattle.spec_lists.specs.Refusals.{Settings}
use Rattle.spec_tree.specs.Trees.{node_count}
use Rattle.spec_build.specs.Build.{built_tree, Lists, build_refusal, Built, made, not_made, answer_by, BuildIs}
use Rattle.spec_host.specs.Status.{status, refusal_status, Placed}

-- 1 to 6 by the list call, and its lists; the status counts nodes
pub record BuildPut (triangles : List Float) (s : Settings) (old : Lists) (r : ℕ) (new : Lists) : Type 0 where
  pub status_is : r ≡ status (build_refusal triangles s old) (node_count (built_tree binary32 triangles s))
  pub lists_are : BuildIs binary32 triangles s old (answer_by (build_refusal triangles s old) (built_tree binary32 triangles s)) new

-- ---- the list call's answer as a status: a count, or a refusal whose place has bits enough
abbrev pub built_status : Built → ℕ
built_status (made nodes depth) = nodes
built_status (not_made number place) = refusal_status number place

abbrev pub BuiltPlaced : Built → Type 0
BuiltPlaced (made nodes depth) = Unit {0}
BuiltPlaced (not_made number place) = Placed number place
