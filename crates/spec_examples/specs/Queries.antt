-- E10: the two queries at (5.5, 0, 0) over T0 and T1, in the tree that is built (median, 1, 40), at distance 50 and at 4.5. The scope's sure query is by
-- the first rule; by the second 4.5 reaches.
use Rattle.std.specs.Prelude.{false, List, [], ◌∷◌, ℤ, pos, negsuc, Float}
use Rattle.std.specs.Float.{Format, fin}
use Rattle.std.specs.Float.Ieee.{of_int}
use Rattle.spec_shapes.specs.Points.{Point}
use Rattle.spec_lists.specs.Reading.{box_at}
use Rattle.spec_lists.specs.Refusals.{Settings}
use Rattle.spec_tree.specs.Trees.{Tree, numbers, node_count, links_from, boxes_of}
use Rattle.spec_build.specs.Build.{built_tree}
use Rattle.spec_search.specs.Answers.{Answer, nothing, found}
use Rattle.spec_search.specs.Rules.{Rule, strictly_below, below_or_equal}
use Rattle.spec_search.specs.Calls.{sure_answer, source_answer}
use Rattle.spec_examples.specs.Table.{Example, Shown, float, whole}

-- an answer as the example shows it: its triangle, point and squared distance, with the part, or nothing
abbrev pub shown : Answer → List Shown
shown nothing = []
shown (found h) = whole (pos h.triangle) ∷ float h.point.x ∷ float h.point.y ∷ float h.point.z ∷ float h.squared
    ∷ whole (pos h.part) ∷ []

module _ (f : Format) where
  abbrev pub n : ℤ → Float
  n k = of_int f k

  -- T0 (0,0,0) (1,0,0) (0,1,0), T1 (10,0,0) (11,0,0) (10,1,0)
  abbrev pub t0t1 : List Float
  t0t1 =
      n (pos 0) ∷ n (pos 0) ∷ n (pos 0) ∷ n (pos 1) ∷ n (pos 0) ∷ n (pos 0) ∷ n (pos 0) ∷ n (pos 1) ∷ n (pos 0)
      ∷ n (pos 10) ∷ n (pos 0) ∷ n (pos 0) ∷ n (pos 11) ∷ n (pos 0) ∷ n (pos 0) ∷ n (pos 10) ∷ n (pos 1) ∷ n (pos 0) ∷ []

  abbrev pub median_settings : Settings
  median_settings = record { strategy = 1; leaf_minimum = 1; maximum_depth = 40 }

  unfoldable pub e10_tree : Tree
  e10_tree = built_tree f t0t1 median_settings

  -- 5.5 is 11 / 2, and 4.5 is 9 / 2
  abbrev pub touched : Point
  touched = record { x = fin false 11 (negsuc 0); y = n (pos 0); z = n (pos 0) }

  abbrev pub four_and_a_half : Float
  four_and_a_half = fin false 9 (negsuc 0)

  abbrev pub source_at : Float → Answer
  source_at distance =
      let t = e10_tree in
      source_answer f t0t1 (numbers t) (links_from 0 0 t) (boxes_of (box_at t0t1) t) (node_count t) distance touched

  abbrev pub sure_at : Rule → Float → Answer
  sure_at rule distance = sure_answer f rule t0t1 distance touched

  -- 4.5 squared is 20.25, 81 / 4
  abbrev pub e10_source : Example
  e10_source = record {
    worked = shown (source_at (n (pos 50)));
    given = whole (pos 1) ∷ float (n (pos 10)) ∷ float (n (pos 0)) ∷ float (n (pos 0)) ∷ float (fin false 81 (negsuc 1)) ∷ whole (pos 1) ∷ [];
  }

  abbrev pub e10_sure : Example
  e10_sure = record {
    worked = shown (sure_at strictly_below (n (pos 50)));
    given = whole (pos 0) ∷ float (n (pos 1)) ∷ float (n (pos 0)) ∷ float (n (pos 0)) ∷ float (fin false 81 (negsuc 1)) ∷ whole (pos 2) ∷ [];
  }

  abbrev pub e10_source_near : Example
  e10_source_near = record { worked = shown (source_at four_and_a_half); given = [] }

  abbrev pub e10_sure_near : Example
  e10_sure_near = record { worked = shown (sure_at strictly_below four_and_a_half); given = [] }

  abbrev pub e10_sure_level : Example
  e10_sure_level = record {
    worked = shown (sure_at below_or_equal four_and_a_half);
    given = whole (pos 0) ∷ float (n (pos 1)) ∷ float (n (pos 0)) ∷ float (n (pos 0)) ∷ float (fin false 81 (negsuc 1)) ∷ whole (pos 2) ∷ [];
  }

  abbrev pub query_examples : List Example
  query_examples = e10_source ∷ e10_sure ∷ e10_source_near ∷ e10_sure_near ∷ e10_sure_level ∷ []
