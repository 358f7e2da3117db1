-- The two queries at a few points over the scope's T0 and T1, worked out: the source's right child first and its strict comparison, which boxes it
-- enters, the root that it always looks at; how far the limit reaches; and how many triangles the sure walk measures. The laws say that the walk is
-- the scan; these say which walk it is. At the end a patch to the drawing and a wider search.
use mathlib.Core.Path.{◌≡◌, refl}
use mathlib.Core.Bool.{false}
use mathlib.Core.List.{List, [], ◌∷◌, ◌++◌}
use Prim.Native.Nat.{ℕ}
use lib.IntN.{ℤ, pos, negsuc}
use lib.Ieee.{Float, Format, binary32, binary64, fin, add, sub, mul, div, lt, le, eq, round, of_int, to_bits}
use Rattle.spec_numbers.specs.Same.{same}
use Rattle.spec_shapes.specs.Points.{Point, minus, plus, scale, dot, smallest, largest, is_under, is_finite, plus_zero, squared_distance}
use Rattle.spec_shapes.specs.Boxes.{union, with_excess, with_outside, box_squared, contains_point, held_in, held_squared}
use Rattle.spec_shapes.specs.Triangles.{box_of, dots, crossed, part, along, face_point, point_on, part_number, closest_spot, held_spot}
use Rattle.spec_lists.specs.Refusals.{Verdict, passes, refused, first_refusal, is_coordinate, is_distance, first_bad, ragged_refusal, none_refusal, too_many_refusal, coordinate_refusal, triangles_refusal, room_refusal, points_refusal, distance_refusal}
use Rattle.spec_lists.specs.Reading.{number_at, point_at, triangle_at, box_at, triangle_count, point_count}
use Rattle.spec_tree.specs.Trees.{Tree, leaf, branch, numbers, node_count, joined_to, joined, box_over, root_from, links_from, boxes_of}
use Rattle.spec_tree.specs.Order.{range, occurs}
use Rattle.spec_tree.specs.Accepted.{same_box, present}
use Rattle.spec_tree.specs.Reasons as Reasons
use Rattle.spec_tree.specs.Reasons.{failing_from, refused_where, is_new, order_refusal, count_refusal, scan_leaf, listing_refusal, level_under, is_shallow, depth_refusal, is_boxed, box_refusal, reason}
use Rattle.spec_tree.specs.Refusals.{tree_refusal}
use Rattle.spec_search.specs.Answers.{Query, sure, few, source, Hit, Answer, nothing, found, words_of}
use Rattle.spec_search.specs.Walk.{Sought, took_all, node_walk, pair_walk, root_walk, fold}
use Rattle.spec_search.specs.Rules.{Rule, strictly_below, below_or_equal, rule_of, rule_refusal, limit_squared, limit_of, counts}
use Rattle.spec_search.specs.Ranked.{inserted, offered_to, above_last}
use Rattle.spec_search.specs.Sure.{offered, hit, took_sure, scan}
use Rattle.spec_search.specs.Few.{offered_few, is_skipped, took_few, scan_few, answer_in, node_squared, skipped_few, right_nearer, few_walk}
use Rattle.spec_search.specs.Source.{source_hit, keep_smaller, took_source, enters, source_walk}
use Rattle.spec_search.specs.Marked.{marker, markers, marked_walk, unmarked}
use Rattle.spec_search.specs.Calls.{most_refusal, query_refusal, sure_answer, few_answer, source_answer}
use Rattle.spec_search.specs.Wider.{Passing, answer_of, narrowed_to, numbered_from, nearer_of}

module _ (f : Format) where
  abbrev n : ℤ → Float
  n k = of_int f k

  abbrev on_x : Float → Point
  on_x x = record { x = x; y = n (pos 0); z = n (pos 0) }

  -- T0 (0,0,0) (1,0,0) (0,1,0), and T1 (10,0,0) (11,0,0) (10,1,0) behind it
  abbrev t0 : List Float
  t0 = n (pos 0) ∷ n (pos 0) ∷ n (pos 0) ∷ n (pos 1) ∷ n (pos 0) ∷ n (pos 0) ∷ n (pos 0) ∷ n (pos 1) ∷ n (pos 0) ∷ []

  abbrev t1 : List Float
  t1 = n (pos 10) ∷ n (pos 0) ∷ n (pos 0) ∷ n (pos 11) ∷ n (pos 0) ∷ n (pos 0) ∷ n (pos 10) ∷ n (pos 1) ∷ n (pos 0) ∷ []

  abbrev t0t1 : List Float
  t0t1 = t0 ++ t1

  -- a leaf each
  abbrev two : Tree
  two = branch (leaf (0 ∷ [])) (leaf (1 ∷ []))

  abbrev one : Tree
  one = leaf (0 ∷ [])

  abbrev source_in : List Float → Tree → Float → Float → Answer
  source_in triangles t x distance = source_answer f triangles (numbers t) (links_from 0 0 t) (boxes_of (box_at triangles) t) (node_count t) distance (on_x x)

  abbrev sure_in : Rule → List Float → Float → Float → Answer
  sure_in rule triangles x distance = sure_answer f rule triangles distance (on_x x)

  abbrev few_in : ℕ → Rule → Float → Float → List Answer
  few_in most rule x distance =
      let at : ℕ → Answer = few_answer f rule most t0t1 distance (on_x x) in
      at 0 ∷ at 1 ∷ at 2 ∷ []

  abbrev walk_in : ℕ → Rule → Float → Float → Sought (List Hit)
  walk_in most rule x distance =
      few_walk f t0t1 (numbers two) (links_from 0 0 two) (boxes_of (box_at t0t1) two) (node_count two) (on_x x) most (limit_of f rule distance)

  abbrev marked_in : ℕ → Rule → Float → Float → Sought (List Hit)
  marked_in most rule x distance =
      marked_walk f t0t1 (numbers two) (links_from 0 0 two) (boxes_of (box_at t0t1) two) (node_count two) (on_x x) most (limit_of f rule distance)

  abbrev hit_at_x : ℕ → ℕ → ℤ → Float → Hit
  hit_at_x triangle part x squared = record { point = on_x (n x); squared = squared; triangle = triangle; part = part }

  abbrev found_at : ℕ → ℕ → ℤ → Float → Answer
  found_at triangle part x squared = found (hit_at_x triangle part x squared)

  -- 5.5 is 11 / 2, 4.5 is 9 / 2, and 20.25, which is 4.5 squared, is 81 / 4
  abbrev between : Float
  between = fin false 11 (negsuc 0)

  abbrev reach : Float
  reach = fin false 9 (negsuc 0)

  abbrev level : Float
  level = fin false 81 (negsuc 1)

-- what a query at one point refuses, with a list of so many words lent and no tree
abbrev refused_at : Format → Query → List Float → ℕ → Verdict
refused_at f query triangles room = query_refusal query triangles [] [] [] 0 (n f (pos 0) ∷ n f (pos 0) ∷ n f (pos 0) ∷ []) (n f (pos 1)) room

-- at 5.5 both triangles are level: the source has the right one, which it meets first, and at 4.5, which is as far as they are, none is entered; of
-- T0 alone, (100,0,0) finds what is beyond the limit
pub source_worked : (f : Format)
    → (source_in f (t0t1 f) (two f) (between f) (n f (pos 5)) ∷ source_in f (t0t1 f) (two f) (between f) (reach f)
    ∷ source_in f (t0 f) (one f) (n f (pos 100)) (n f (pos 1)) ∷ [])
    ≡ (found_at f 1 1 (pos 10) (level f) ∷ nothing ∷ found_at f 0 2 (pos 1) (n f (pos 9801)) ∷ [])
unfolding add sub mul div lt le eq round of_int minus plus scale dot smallest largest is_under is_finite plus_zero squared_distance union with_excess
    with_outside box_squared contains_point held_in held_squared box_of dots crossed part along face_point point_on closest_spot part_number held_spot
    number_at point_at triangle_at box_at triangle_count numbers node_count joined_to joined box_over root_from links_from boxes_of range took_all node_walk
    pair_walk root_walk fold limit_squared counts offered hit took_sure scan inserted offered_to above_last offered_few is_skipped took_few scan_few answer_in
    node_squared skipped_few right_nearer few_walk source_hit keep_smaller took_source enters source_walk sure_answer few_answer source_answer
source_worked binary32 = refl
source_worked binary64 = refl

-- the sure query has the lower number; at 4.5, which is as far as both are, and at no distance from what it touches, nothing by the first rule and
-- what is there by the second; nothing beyond the limit by either
pub sure_worked : (f : Format)
    → (sure_in f strictly_below (t0t1 f) (between f) (n f (pos 5)) ∷ sure_in f strictly_below (t0t1 f) (between f) (reach f)
    ∷ sure_in f below_or_equal (t0t1 f) (between f) (reach f) ∷ sure_in f strictly_below (t0 f) (n f (pos 1)) (n f (pos 0))
    ∷ sure_in f below_or_equal (t0 f) (n f (pos 1)) (n f (pos 0)) ∷ sure_in f below_or_equal (t0 f) (n f (pos 100)) (n f (pos 1)) ∷ [])
    ≡ (found_at f 0 2 (pos 1) (level f) ∷ nothing ∷ found_at f 0 2 (pos 1) (level f) ∷ nothing ∷ found_at f 0 2 (pos 1) (n f (pos 0)) ∷ nothing ∷ [])
unfolding add sub mul div lt le eq round of_int minus plus scale dot smallest largest is_under is_finite plus_zero squared_distance union with_excess
    with_outside box_squared contains_point held_in held_squared box_of dots crossed part along face_point point_on closest_spot part_number held_spot
    number_at point_at triangle_at box_at triangle_count numbers node_count joined_to joined box_over root_from links_from boxes_of range took_all node_walk
    pair_walk root_walk fold limit_squared counts offered hit took_sure scan inserted offered_to above_last offered_few is_skipped took_few scan_few answer_in
    node_squared skipped_few right_nearer few_walk source_hit keep_smaller took_source enters source_walk sure_answer few_answer source_answer
sure_worked binary32 = refl
sure_worked binary64 = refl

-- the nearest few: of two that are level the lower number first; at 9 the nearer first; nothing in a spare place, and in none behind those that are
-- asked for; at 4.5 none by the first rule, and both by the second
pub few_worked : (f : Format)
    → (few_in f 3 strictly_below (between f) (n f (pos 5)) ∷ few_in f 2 strictly_below (n f (pos 9)) (n f (pos 50))
    ∷ few_in f 1 strictly_below (n f (pos 9)) (n f (pos 50)) ∷ few_in f 2 strictly_below (between f) (reach f) ∷ few_in f 2 below_or_equal (between f)
    (reach f) ∷ [])
    ≡ ((found_at f 0 2 (pos 1) (level f) ∷ found_at f 1 1 (pos 10) (level f) ∷ nothing ∷ [])
    ∷ (found_at f 1 1 (pos 10) (n f (pos 1)) ∷ found_at f 0 2 (pos 1) (n f (pos 64)) ∷ nothing ∷ [])
    ∷ (found_at f 1 1 (pos 10) (n f (pos 1)) ∷ nothing ∷ nothing ∷ []) ∷ (nothing ∷ nothing ∷ nothing ∷ [])
    ∷ (found_at f 0 2 (pos 1) (level f) ∷ found_at f 1 1 (pos 10) (level f) ∷ nothing ∷ []) ∷ [])
unfolding add sub mul div lt le eq round of_int minus plus scale dot smallest largest is_under is_finite plus_zero squared_distance union with_excess
    with_outside box_squared contains_point held_in held_squared box_of dots crossed part along face_point point_on closest_spot part_number held_spot
    number_at point_at triangle_at box_at triangle_count range fold limit_squared counts hit inserted offered_to offered_few took_few scan_few answer_in
    few_answer
few_worked binary32 = refl
few_worked binary64 = refl

-- a box that is level with the last that is kept is looked into, and by the second rule one at the limit; the nearer box goes first, and the farther
-- one is skipped once as many are kept as may be, and not before
pub walk_worked : (f : Format)
    → (walk_in f 1 strictly_below (between f) (n f (pos 5)) ∷ walk_in f 1 strictly_below (n f (pos 9)) (n f (pos 50))
    ∷ walk_in f 2 strictly_below (n f (pos 9)) (n f (pos 50)) ∷ walk_in f 1 strictly_below (between f) (reach f)
    ∷ walk_in f 1 below_or_equal (between f) (reach f) ∷ [])
    ≡ (record { best = hit_at_x f 0 2 (pos 1) (level f) ∷ []; measured = 2 } ∷ record { best = hit_at_x f 1 1 (pos 10) (n f (pos 1)) ∷ []; measured = 1 }
    ∷ record { best = hit_at_x f 1 1 (pos 10) (n f (pos 1)) ∷ hit_at_x f 0 2 (pos 1) (n f (pos 64)) ∷ []; measured = 2 }
    ∷ record { best = []; measured = 0 } ∷ record { best = hit_at_x f 0 2 (pos 1) (level f) ∷ []; measured = 2 } ∷ [])
unfolding add sub mul div lt le eq round of_int minus plus scale dot smallest largest is_under is_finite plus_zero squared_distance union with_excess
    with_outside box_squared contains_point held_in held_squared box_of dots crossed part along face_point point_on closest_spot part_number held_spot
    number_at point_at triangle_at box_at triangle_count numbers node_count joined_to joined box_over root_from links_from boxes_of range took_all node_walk
    pair_walk root_walk fold limit_squared counts hit inserted offered_to above_last offered_few is_skipped took_few node_squared skipped_few right_nearer
    few_walk
walk_worked binary32 = refl
walk_worked binary64 = refl

-- the walk as the code makes it, from markers: the same hits and counts, and markers at the limit in the spare places
pub marked_worked : (f : Format)
    → (marked_in f 1 strictly_below (between f) (n f (pos 5)) ∷ marked_in f 3 strictly_below (between f) (n f (pos 5))
    ∷ marked_in f 1 strictly_below (between f) (reach f) ∷ marked_in f 2 below_or_equal (between f) (reach f)
    ∷ marked_in f 1 below_or_equal (n f (pos 100)) (n f (pos 1)) ∷ [])
    ≡ (record { best = hit_at_x f 0 2 (pos 1) (level f) ∷ []; measured = 2 }
    ∷ record { best = hit_at_x f 0 2 (pos 1) (level f) ∷ hit_at_x f 1 1 (pos 10) (level f) ∷ marker (n f (pos 25)) ∷ []; measured = 2 }
    ∷ record { best = marker (level f) ∷ []; measured = 0 }
    ∷ record { best = hit_at_x f 0 2 (pos 1) (level f) ∷ hit_at_x f 1 1 (pos 10) (level f) ∷ []; measured = 2 }
    ∷ record { best = marker (n f (pos 1)) ∷ []; measured = 0 } ∷ [])
unfolding add sub mul div lt le eq round of_int minus plus scale dot smallest largest is_under is_finite plus_zero squared_distance union with_excess
    with_outside box_squared contains_point held_in held_squared box_of dots crossed part along face_point point_on closest_spot part_number held_spot
    number_at point_at triangle_at box_at triangle_count numbers node_count joined_to joined box_over root_from links_from boxes_of range took_all node_walk
    pair_walk root_walk fold limit_squared counts hit inserted offered_to above_last offered_few is_skipped took_few node_squared skipped_few right_nearer
    few_walk markers marked_walk
marked_worked binary32 = refl
marked_worked binary64 = refl

-- a place that is a triangle's is answered, and one that is still a marker's is nothing
pub unmarked_worked : (unmarked (hit_at_x binary32 3 2 (pos 1) (level binary32)) ∷ unmarked (marker (level binary32)) ∷ [])
    ≡ (found_at binary32 3 2 (pos 1) (level binary32) ∷ nothing ∷ [])
unfolding unmarked
unmarked_worked = refl

-- an answer's numbers: found, triangle, the bits of (1,0,0) and of 20.25, part; and nothing
pub words_worked : (words_of binary32 (found_at binary32 3 2 (pos 1) (level binary32)) ∷ words_of binary32 nothing ∷ [])
    ≡ ((1 ∷ 3 ∷ 0x3f80_0000 ∷ 0 ∷ 0 ∷ 0x41a2_0000 ∷ 2 ∷ []) ∷ (0 ∷ 0 ∷ 0 ∷ 0 ∷ 0 ∷ 0 ∷ 0 ∷ []) ∷ [])
unfolding words_of to_bits of_int round
words_worked = refl

-- the numbers of the rules, and of none
pub rules_worked : (rule_of 1 ∷ rule_of 2 ∷ []) ≡ (strictly_below ∷ below_or_equal ∷ [])
unfolding rule_of
rules_worked = refl

-- 5 at 0 of any other number
pub rule_refusals_worked : (rule_refusal 0 ∷ rule_refusal 1 ∷ rule_refusal 2 ∷ rule_refusal 3 ∷ []) ≡ (refused 5 0 ∷ passes ∷ passes ∷ refused 5 0 ∷ [])
unfolding rule_refusal
rule_refusals_worked = refl

-- and of so many answers as none may ask for
pub most_refusals_worked : (most_refusal 0 ∷ most_refusal 1 ∷ most_refusal 16 ∷ most_refusal 17 ∷ []) ≡ (refused 5 0 ∷ passes ∷ passes ∷ refused 5 0 ∷ [])
unfolding most_refusal
most_refusals_worked = refl

-- 5 comes behind the triangles' tests and before the room's, and the source query has none: one point and no room, under no rule, then for none and for
-- 17; and with room for one answer of the two that are asked for
pub query_refusals_worked : (f : Format)
    → (refused_at f (sure 3) [] 0 ∷ refused_at f (sure 3) (t0 f) 0 ∷ refused_at f (sure 2) (t0 f) 0 ∷ refused_at f source (t0 f) 0
    ∷ refused_at f (few 3 2) (t0 f) 0 ∷ refused_at f (few 2 0) (t0 f) 0 ∷ refused_at f (few 2 17) (t0 f) 0 ∷ refused_at f (few 2 2) (t0 f) 13
    ∷ refused_at f (few 2 2) (t0 f) 14 ∷ [])
    ≡ (refused 2 0 ∷ refused 5 0 ∷ refused 6 0 ∷ refused 6 0 ∷ refused 5 0 ∷ refused 5 0 ∷ refused 5 0 ∷ refused 6 0 ∷ refused 71 0 ∷ [])
unfolding lt le eq round of_int triangle_count point_count first_refusal is_coordinate first_bad ragged_refusal none_refusal too_many_refusal coordinate_refusal
    triangles_refusal room_refusal rule_refusal most_refusal query_refusal tree_refusal reason order_refusal failing_from refused_where is_new occurs
    number_at point_at triangle_at box_at smallest largest is_under plus_zero union box_of same_box present count_refusal scan_leaf Reasons.scan listing_refusal
    level_under is_shallow depth_refusal is_boxed box_refusal
query_refusals_worked binary32 = refl
query_refusals_worked binary64 = refl

-- ---- a patch, and a wider search
-- a sure query by the second rule, with no points told
abbrev told : List Float → Tree → Float → Verdict
told triangles t distance = query_refusal (sure 2) triangles (numbers t) (links_from 0 0 t) (boxes_of (box_at triangles) t) (node_count t) [] distance 0

abbrev asked : (triangles : List Float) (t : Tree) (distance : Float) → told triangles t distance ≡ passes → Passing 2 triangles distance
asked triangles t distance e = record {
  order = numbers t;
  links = links_from 0 0 t;
  boxes = boxes_of (box_at triangles) t;
  nodes = node_count t;
  points = [];
  room = 0;
  passed = e;
}

-- within 5 T0 alone, with T1 appended, and T1 alone; T0 within 50: there are such queries. None has a distance below zero: -5 is smaller than -1 and
-- has the larger limit squared
pub queries_worked : (f : Format)
    → (told (t0 f) (one f) (n f (pos 5)) ≡ passes) × ((told (t0 f ++ t1 f) (two f) (n f (pos 5)) ≡ passes) × ((told (t1 f) (one f) (n f (pos 5)) ≡ passes)
    × ((told (t0 f) (one f) (n f (pos 50)) ≡ passes) × (told (t0 f) (one f) (n f (negsuc 4)) ≡ refused 9 0))))
unfolding lt le eq round of_int same smallest largest is_under plus_zero union box_of number_at point_at triangle_at box_at triangle_count point_count
    first_refusal
    is_coordinate is_distance first_bad ragged_refusal none_refusal too_many_refusal coordinate_refusal triangles_refusal room_refusal points_refusal
    distance_refusal
    rule_refusal query_refusal numbers node_count joined_to joined box_over root_from links_from boxes_of occurs same_box present failing_from refused_where
    is_new
    order_refusal count_refusal scan_leaf Reasons.scan listing_refusal level_under is_shallow depth_refusal is_boxed box_refusal reason tree_refusal
queries_worked binary32 = (refl, (refl, (refl, (refl, refl))))
queries_worked binary64 = (refl, (refl, (refl, (refl, refl))))

-- at (x,0,0) T0's answer; that with T1 appended, and the nearer of T0's and of T1's own; T0's by the wider search, and what the smaller distance leaves
-- of it
abbrev answers_at : (f : Format) → Float → List Answer
answers_at f x =
    let passed = queries_worked f in
    let before = answer_of f (asked (t0 f) (one f) (n f (pos 5)) passed.0) (on_x f x) in
    let after = answer_of f (asked (t0 f ++ t1 f) (two f) (n f (pos 5)) passed.1.0) (on_x f x) in
    let patch = answer_of f (asked (t1 f) (one f) (n f (pos 5)) passed.1.1.0) (on_x f x) in
    let wider = answer_of f (asked (t0 f) (one f) (n f (pos 50)) passed.1.1.1.0) (on_x f x) in
    before ∷ after ∷ nearer_of before (numbered_from 1 patch) ∷ wider ∷ narrowed_to (limit_of f below_or_equal (n f (pos 5))) wider ∷ []

-- at 5.75, which is 23 / 4, T0 is 4.75 away, 361 / 16 squared, and T1 4.25, 289 / 16
abbrev closer : Float
closer = fin false 23 (negsuc 1)

abbrev unpatched : Format → Answer
unpatched f = found_at f 0 2 (pos 1) (fin false 361 (negsuc 3))

abbrev patched : Format → Answer
patched f = found_at f 1 1 (pos 10) (fin false 289 (negsuc 3))

abbrev standing : Format → Answer
standing f = found_at f 0 2 (pos 1) (level f)

abbrev come : Format → Answer
come f = found_at f 1 1 (pos 10) (n f (pos 4))

-- at 5.5 T1 is level with T0, whose answer stands; at 5.75 T1 is nearer; at 8, where T0 is too far, T1 is found, and T0 by the wider search
pub patch_worked : (f : Format) → (answers_at f (between f) ∷ answers_at f closer ∷ answers_at f (n f (pos 8)) ∷ [])
    ≡ ((standing f ∷ standing f ∷ standing f ∷ standing f ∷ standing f ∷ [])
    ∷ (unpatched f ∷ patched f ∷ patched f ∷ unpatched f ∷ unpatched f ∷ [])
    ∷ (nothing ∷ come f ∷ come f ∷ found_at f 0 2 (pos 1) (n f (pos 49)) ∷ nothing ∷ []) ∷ [])
unfolding add sub mul div lt le eq round of_int minus plus scale dot smallest largest is_under is_finite plus_zero squared_distance union held_in box_of dots
    crossed part along face_point point_on closest_spot part_number held_spot number_at point_at triangle_at triangle_count range fold rule_of
    limit_squared counts offered hit took_sure scan sure_answer
patch_worked binary32 = refl
patch_worked binary64 = refl

-- (0,0,0) (4,0,0) (0,4,0), whose box holds (4,4,0) though (6,4,0) (7,4,0) (6,5,0) is nearer
abbrev box_around : Format → List Float
box_around f =
    n f (pos 0) ∷ n f (pos 0) ∷ n f (pos 0) ∷ n f (pos 4) ∷ n f (pos 0) ∷ n f (pos 0) ∷ n f (pos 0) ∷ n f (pos 4) ∷ n f (pos 0)
    ∷ n f (pos 6) ∷ n f (pos 4) ∷ n f (pos 0) ∷ n f (pos 7) ∷ n f (pos 4) ∷ n f (pos 0) ∷ n f (pos 6) ∷ n f (pos 5) ∷ n f (pos 0) ∷ []

abbrev flat : (f : Format) → ℤ → ℤ → Point
flat f x y = record { x = n f x; y = n f y; z = n f (pos 0) }

abbrev source_around : (f : Format) → ℤ → Answer
source_around f distance =
    source_answer f (box_around f) (numbers (two f)) (links_from 0 0 (two f)) (boxes_of (box_at (box_around f)) (two f)) (node_count (two f)) (n f distance)
    (flat f (pos 4) (pos 4))

-- the source query has no such law: within 1 it finds the first, because of its box, and within 3 the second
pub source_widened : (f : Format) → (source_around f (pos 1) ∷ source_around f (pos 3) ∷ [])
    ≡ (found (record { point = flat f (pos 2) (pos 2); squared = n f (pos 8); triangle = 0; part = 6 })
    ∷ found (record { point = flat f (pos 6) (pos 4); squared = n f (pos 4); triangle = 1; part = 1 }) ∷ [])
unfolding add sub mul div lt le eq round of_int minus plus scale dot smallest largest is_under plus_zero squared_distance union with_excess with_outside
    box_squared contains_point box_of dots crossed part along face_point point_on closest_spot part_number number_at point_at triangle_at box_at
    triangle_count numbers
    node_count joined_to joined box_over root_from links_from boxes_of took_all pair_walk node_walk root_walk limit_squared source_hit keep_smaller
    took_source enters
    source_walk source_answer
source_widened binary32 = refl
source_widened binary64 = refl
