-- The nearest few: of the squared distances that count the `most` smallest, rising, the lower number first among equals. The scan of all triangles is
-- what the query means; the walk is how it is answered. With most = 1 it is the sure query.
use Rattle.std.specs.Prelude.{Bool, not, ◌||◌, List, [], ◌∷◌, ℕ, zero, suc, ◌-◌, Float}
use Rattle.std.specs.Float.{Format}
use Rattle.std.specs.Float.Ieee.{lt}
use Rattle.spec_shapes.specs.Points.{Point}
use Rattle.spec_shapes.specs.Boxes.{held_squared}
use Rattle.spec_lists.specs.Limits.{deepest}
use Rattle.spec_lists.specs.Reading.{triangle_count}
use Rattle.spec_tree.specs.Order.{range}
use Rattle.spec_tree.specs.Trees.{node_box}
use Rattle.spec_search.specs.Answers.{Hit, squared_of, number_of, Answer, nothing, found}
use Rattle.spec_search.specs.Rules.{Limit, counts}
use Rattle.spec_search.specs.Ranked.{offered_to, above_last}
use Rattle.spec_search.specs.Walk.{Search, Sought, node_walk, fold}
use Rattle.spec_search.specs.Sure.{hit}

-- what is kept, of the most that may be, once h is offered
unfoldable pub offered_few : ℕ → Limit → Hit → List Hit → List Hit
offered_few most limit h ks = offered_to squared_of number_of most (counts limit h.squared) h ks

-- a box at this squared distance is skipped: it does not count, or is above the last, once as many are kept as may be. One that is level with the last
-- may hold an equal with a lower number
unfoldable pub is_skipped : ℕ → Limit → Float → List Hit → Bool
is_skipped most limit d ks = not (counts limit d) || above_last squared_of number_of most d ks

module _ (f : Format) (triangles : List Float) (p : Point) (most : ℕ) where
  unfoldable pub took_few : Limit → ℕ → List Hit → List Hit
  took_few limit t ks = offered_few most limit (hit f triangles p t) ks

  -- the few of all triangles, in the order of their numbers
  unfoldable pub scan_few : Limit → List Hit
  scan_few limit = fold (took_few limit) (range (triangle_count triangles)) []

-- ---- as answers
-- the one at this place, from 0: nothing in the spare places
unfoldable pub answer_in : List Hit → ℕ → Answer
answer_in [] j = nothing
answer_in (h ∷ hs) zero = found h
answer_in (h ∷ hs) (suc j) = answer_in hs j

-- ---- the walk
unfoldable pub node_squared : Format → List Float → Point → ℕ → Float
node_squared f boxes p node = held_squared f (node_box boxes node) p

unfoldable pub skipped_few : Format → List Float → Point → ℕ → Limit → ℕ → List Hit → Bool
skipped_few f boxes p most limit node ks = is_skipped most limit (node_squared f boxes p node) ks

-- the nearer box first, the left one among equals: the farther one is then skipped more often
unfoldable pub right_nearer : Format → List Float → Point → ℕ → ℕ → Bool
right_nearer f boxes p l r = lt (node_squared f boxes p r) (node_squared f boxes p l)

abbrev pub few_search : Format → List Float → List Float → Point → ℕ → Limit → Search (List Hit)
few_search f triangles boxes p most limit =
    record { skipped = skipped_few f boxes p most limit; right_first = right_nearer f boxes p; took = took_few f triangles p most limit }

-- the whole walk, from the root, which is the last node, with nothing kept
unfoldable pub few_walk : Format → List Float → List ℕ → List ℕ → List Float → ℕ → Point → ℕ → Limit → Sought (List Hit)
few_walk f triangles order links boxes nodes p most limit =
    node_walk (few_search f triangles boxes p most limit) order links (deepest - 1) (nodes - 1) (record { best = []; measured = 0 })
