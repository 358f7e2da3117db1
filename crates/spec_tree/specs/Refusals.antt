-- The tree check as a refusal, and the public call that checks any lists at all.
use Rattle.std.specs.Prelude.{List, [], ◌∷◌, ℕ, Float}
use Rattle.spec_lists.specs.Reading.{box_at, triangle_count}
use Rattle.spec_lists.specs.Refusals.{Verdict, first_refusal, triangles_refusal}
use Rattle.spec_tree.specs.Reasons.{reason}

-- 71 to 75: the tree check says no, and why
unfoldable pub tree_refusal : (triangles : List Float) (order links : List ℕ) (boxes : List Float) (nodes : ℕ) → Verdict
tree_refusal triangles order links boxes nodes = reason (box_at triangles) (triangle_count triangles) order links boxes nodes

-- 1 to 4 of the triangles, then 71 to 75 of the tree: the first that applies
unfoldable pub check_refusal : (triangles : List Float) (order links : List ℕ) (boxes : List Float) (nodes : ℕ) → Verdict
check_refusal triangles order links boxes nodes = first_refusal (triangles_refusal triangles ∷ tree_refusal triangles order links boxes nodes ∷ [])
