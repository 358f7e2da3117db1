-- The walk for the nearest few as the code makes it: it knows no rule, keeps what is strictly below a limit, and has all its places filled from the start
-- with markers, hits at the limit squared under a number that no triangle has. By the first rule the walk's limit is the limit squared, by the second an
-- infinite one: then what is level with the limit has a lower number than a marker, so it goes before it, and what is beyond the limit goes behind all
-- places. A marker that is left stands for nothing.
use Rattle.std.specs.Prelude.{false, cond, List, [], ◌∷◌, ◌++◌, ℕ, zero, suc, ◌-◌, eqb, length, Float}
use Rattle.std.specs.Float.{Format, inf}
use Rattle.spec_numbers.specs.Values as Values
use Rattle.spec_shapes.specs.Points.{Point}
use Rattle.spec_lists.specs.Limits.{deepest}
use Rattle.spec_search.specs.Answers.{Hit, Answer, nothing, found}
use Rattle.spec_search.specs.Rules.{Rule, strictly_below, below_or_equal, Limit}
use Rattle.spec_search.specs.Walk.{Sought, node_walk}
use Rattle.spec_search.specs.Few.{few_search}

-- the limit of a walk's code, which knows the first rule alone
abbrev pub below : Float → Limit
below squared = record { rule = strictly_below; squared = squared }

-- what the walk keeps is strictly below this
abbrev pub walk_limit : Rule → Float → Float
walk_limit strictly_below squared = squared
walk_limit below_or_equal squared = inf false

-- the highest number of 32 bits: a list has 65,536 triangles at most
abbrev pub no_triangle : ℕ
no_triangle = 4294967295

abbrev pub marker : Float → Hit
marker squared =
    record { point = record { x = Values.zero; y = Values.zero; z = Values.zero }; squared = squared; triangle = no_triangle; part = 0 }

-- so many of them
unfoldable pub markers : ℕ → Float → List Hit
markers zero squared = []
markers (suc n) squared = marker squared ∷ markers n squared

-- the places: what is kept, and markers in the spare ones
abbrev pub padded : ℕ → Float → List Hit → List Hit
padded most squared ks = ks ++ markers (most - length ks) squared

-- what a search keeps, in its places
abbrev pub padded_in : ℕ → Float → Sought (List Hit) → Sought (List Hit)
padded_in most squared s = record { best = padded most squared s.best; measured = s.measured }

-- the whole walk, from the root
unfoldable pub marked_walk : Format → List Float → List ℕ → List ℕ → List Float → ℕ → Point → ℕ → Limit → Sought (List Hit)
marked_walk f triangles order links boxes nodes p most limit =
    node_walk (few_search f triangles boxes p most (below (walk_limit limit.rule limit.squared))) order links (deepest - 1) (nodes - 1)
    (record { best = markers most limit.squared; measured = 0 })

-- the answer that a place stands for
unfoldable pub unmarked : Hit → Answer
unmarked h = cond (eqb h.triangle no_triangle) nothing (found h)
