-- The build: the tree over all triangles, what the call answers, and the lists that it leaves.
use Rattle.std.specs.Prelude.{◌≡◌, List, [], ◌∷◌, ℕ, ◌-◌, ◌*◌, ◌≤◌, length, replicate, Float}
use Rattle.std.specs.Float.{Format}
use Rattle.spec_tables.specs.Tables.{overwrite}
use Rattle.spec_numbers.specs.Values.{zero}
use Rattle.spec_shapes.specs.Boxes.{Box}
use Rattle.spec_lists.specs.Reading.{box_at, triangle_count}
use Rattle.spec_lists.specs.Refusals.{Verdict, passes, refused, first_refusal, triangles_refusal, Settings, settings_refusal, room_refusal}
use Rattle.spec_lists.specs.Passed.{GoodTriangles, GoodSettings}
use Rattle.spec_tree.specs.Trees.{Tree, numbers, node_count, levels, links_from, boxes_of}
use Rattle.spec_tree.specs.Order.{range}
use Rattle.spec_build.specs.Grown.{grown}
use Rattle.spec_build.specs.Tries.{tried}

-- depth starts at 1, and a leaf is made at the maximum depth: the root is one level of it
abbrev pub levels_below : Settings → ℕ
levels_below s = s.maximum_depth - 1

-- the tree over all triangles, grown from the order 0, 1, 2 and so on
unfoldable pub built_tree : Format → List Float → Settings → Tree
built_tree f triangles s = grown (tried f (box_at triangles) s.strategy) s.leaf_minimum (levels_below s) (range (triangle_count triangles))

-- ---- what is lent
-- the lists that hold the tree afterwards, and the working lists, for the tables of boxes and of centres and for the sort
pub record Lists : Type 0 where
  pub order : List ℕ
  pub links : List ℕ
  pub boxes : List Float
  pub bounds : List Float
  pub centres : List Float
  pub scratch : List ℕ

-- ---- refusals 1 to 6
-- n leaves have n - 1 branches: the room that is asked for is enough for any tree without empty leaves
abbrev pub max_nodes : ℕ → ℕ
max_nodes n = 2 * n - 1

-- 6: the room in each list that is lent, for n triangles
abbrev pub room_tests : ℕ → Lists → List Verdict
room_tests n lent =
    room_refusal (length lent.order) n
    ∷ room_refusal (length lent.links) (3 * max_nodes n)
    ∷ room_refusal (length lent.boxes) (6 * max_nodes n)
    ∷ room_refusal (length lent.bounds) (6 * n)
    ∷ room_refusal (length lent.centres) (3 * n)
    ∷ room_refusal (length lent.scratch) n
    ∷ []

-- the triangles, the settings, then the room
unfoldable pub build_refusal : List Float → Settings → Lists → Verdict
build_refusal triangles s lent = first_refusal (triangles_refusal triangles ∷ settings_refusal s ∷ room_tests (triangle_count triangles) lent)

-- ---- the answer
pub data Built : Type 0 where
  made : (nodes depth : ℕ) → Built
  not_made : (number place : ℕ) → Built

abbrev pub answer_by : Verdict → Tree → Built
answer_by passes t = made (node_count t) (levels t)
answer_by (refused number place) t = not_made number place

-- a refusal changes nothing; entries past those used stay unchanged
abbrev pub left_by : {A : Type 0} → Verdict → List A → List A → List A
left_by passes new old = overwrite 0 new old
left_by (refused number place) new old = old

-- what a call with this verdict, over n triangles and with this tree, answers, and what its lists hold afterwards
-- the working lists hold zeros where they were used
pub record Outcome (v : Verdict) (n : ℕ) (box_at : ℕ → Box) (t : Tree) (old : Lists) (answer : Built) (new : Lists) : Type 0 where
  pub answer_is : answer ≡ answer_by v t
  pub order_is : new.order ≡ left_by v (numbers t) old.order
  pub links_are : new.links ≡ left_by v (links_from 0 0 t) old.links
  pub boxes_are : new.boxes ≡ left_by v (boxes_of box_at t) old.boxes
  pub bounds_are : new.bounds ≡ left_by v (replicate (6 * n) zero) old.bounds
  pub centres_are : new.centres ≡ left_by v (replicate (3 * n) zero) old.centres
  pub scratch_is : new.scratch ≡ left_by v (replicate n 0) old.scratch

-- the contract of the call, for every input: what it answers, and what its lists hold afterwards
abbrev pub BuildIs : Format → (triangles : List Float) → Settings → (old : Lists) → Built → (new : Lists) → Type 0
BuildIs f triangles s old = Outcome (build_refusal triangles s old) (triangle_count triangles) (box_at triangles) (built_tree f triangles s) old

-- ---- behind the tests
-- what tests that passed give: good triangles, good settings, room in each list
pub record Passed (triangles : List Float) (s : Settings) (lent : Lists) : Type 0 where
  pub triangles_good : GoodTriangles triangles
  pub settings_good : GoodSettings s
  pub order_room : triangle_count triangles ≤ length lent.order
  pub links_room : 3 * max_nodes (triangle_count triangles) ≤ length lent.links
  pub boxes_room : 6 * max_nodes (triangle_count triangles) ≤ length lent.boxes
  pub bounds_room : 6 * triangle_count triangles ≤ length lent.bounds
  pub centres_room : 3 * triangle_count triangles ≤ length lent.centres
  pub scratch_room : triangle_count triangles ≤ length lent.scratch

-- needs of growing the tree of all triangles: they passed, and the table of centres has no entry too many
pub record TreeNeeds (triangles : List Float) (s : Settings) (lent : Lists) : Type 0 where
  pub passed : Passed triangles s lent
  pub centres_long : length lent.centres ≡ 3 * triangle_count triangles

-- what growing it answers, and what it leaves in the lists of the tree
pub record TreeLeft (box_at : ℕ → Box) (t : Tree) (order links : List ℕ) (boxes : List Float) (answer : Built) (order' links' : List ℕ) (boxes' : List Float)
    : Type 0 where
  pub answer_is : answer ≡ made (node_count t) (levels t)
  pub order_is : order' ≡ overwrite 0 (numbers t) order
  pub links_are : links' ≡ overwrite 0 (links_from 0 0 t) links
  pub boxes_are : boxes' ≡ overwrite 0 (boxes_of box_at t) boxes
