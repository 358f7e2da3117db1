-- The scope document's printed run: of the bytes of its four records `gauge` prints its three lines.
use mathlib.Core.Path.{◌≡◌, refl, sym, ap, ◌∙◌}
use mathlib.Core.Bool.{false}
use mathlib.Core.List.{List, [], ◌∷◌, ◌++◌}
use Prim.Native.Nat.{ℕ}
use native.Mathlib.Omega.{arith}
use lib.IntN.{pos, negsuc}
use lib.Ieee.{Float, fin, binary32, sub, mul, div, le, of_int, of_bits, to_bits}
use Rattle.spec_tables.specs.Tables.{concat_map}
use Rattle.spec_shapes.specs.Points.{minus, plus, divided_by, dot, smallest, largest, is_finite, plus_zero, squared_distance}
use Rattle.spec_shapes.specs.Boxes.{union, centre, sizes, volume, held_in}
use Rattle.spec_shapes.specs.Planes.{unit, reach, meets_box}
use Rattle.spec_shapes.specs.Triangles.{box_of, dots, part, point_on, part_number, closest_spot, held_spot}
use Rattle.spec_lists.specs.Reading.{number_at, point_at, triangle_at, box_at, triangle_count, point_count}
use Rattle.spec_lists.specs.Refusals.{passes, first_refusal, is_coordinate, is_distance, first_bad, ragged_refusal, none_refusal, too_many_refusal, coordinate_refusal}
use Rattle.spec_lists.specs.Refusals.{triangles_refusal, are_settings, settings_refusal, points_refusal, distance_refusal}
use Rattle.spec_tree.specs.Trees.{node_count, levels, joined_to, joined}
use Rattle.spec_tree.specs.Order.{range}
use Rattle.spec_sort.specs.Sort.{inserted, sorted}
use Rattle.spec_splits.specs.Splits.{union_of}
use Rattle.spec_splits.specs.Median.{plane_between, all_meet, all_meet_at, is_large, are_both_large, median_split}
use Rattle.spec_build.specs.Grown.{grown}
use Rattle.spec_build.specs.Tries.{axis_inserted, axes_by_size, rule, tried_on, tried_in, tried_within, tried}
use Rattle.spec_build.specs.Build.{built_tree}
use Rattle.spec_search.specs.Walk.{fold}
use Rattle.spec_search.specs.Rules.{rule_of, rule_refusal, limit_squared, counts}
use Rattle.spec_search.specs.Sure.{offered, hit, took_sure, scan}
use Rattle.spec_search.specs.Calls.{sure_answer}
use Rattle.spec_records.specs.Little.{little_at, of_little}
use Rattle.spec_records.specs.Records.{bodies, is_record, is_right, laid_out}
use Rattle.spec_records.specs.Layouts.{version_for, gauge_wants, gauge_spans}
use Rattle.spec_image.specs.Image.{leaf_in, settings_in}
use Rattle.spec_image.specs.Writing.{leaf_refusal}
use Rattle.spec_printing.specs.Printed.{Found, counts_line, found_line, nothing_line}
use Rattle.spec_printing.proofs.PrintedRun.{counts_printed, found_printed, nothing_printed}
use Rattle.spec_gauge.specs.Printed.{Request, request_in, request_refusal, answer_line, answer_lines, tree_line, printed_run, printed}
use Rattle.spec_gauge.proofs.Printed.{right_printed}

-- settings median, 1, 40; T0 and T1; points (5.5,0,0), (100,0,0); distance 50
abbrev pub scope_input : List ℕ
scope_input =
    (8 ∷ 0 ∷ 0 ∷ 0 ∷ 1 ∷ 0 ∷ 1 ∷ 0 ∷ 1 ∷ 0 ∷ 1 ∷ 0 ∷ 40 ∷ 0 ∷ [])
    ++ (72 ∷ 0 ∷ 0 ∷ 0 ∷ 2 ∷ 0 ∷ 0 ∷ 0 ∷ 0 ∷ 0 ∷ 0 ∷ 0 ∷ 0 ∷ 0 ∷ 0 ∷ 0 ∷ 0 ∷ 0 ∷ 0 ∷ 0 ∷ 128 ∷ 63 ∷ 0 ∷ 0 ∷ 0 ∷ 0 ∷ 0 ∷ 0 ∷ 0 ∷ 0 ∷ 0 ∷ 0 ∷ 0 ∷ 0
    ∷ 0 ∷ 0 ∷ 128 ∷ 63 ∷ 0 ∷ 0 ∷ 0 ∷ 0 ∷ 0 ∷ 0 ∷ 32 ∷ 65 ∷ 0 ∷ 0 ∷ 0 ∷ 0 ∷ 0 ∷ 0 ∷ 0 ∷ 0 ∷ 0 ∷ 0 ∷ 48 ∷ 65 ∷ 0 ∷ 0 ∷ 0 ∷ 0 ∷ 0 ∷ 0 ∷ 0 ∷ 0 ∷ 0
    ∷ 0 ∷ 32 ∷ 65 ∷ 0 ∷ 0 ∷ 128 ∷ 63 ∷ 0 ∷ 0 ∷ 0 ∷ 0 ∷ [])
    ++ (24 ∷ 0 ∷ 0 ∷ 0 ∷ 5 ∷ 0 ∷ 0 ∷ 0 ∷ 176 ∷ 64 ∷ 0 ∷ 0 ∷ 0 ∷ 0 ∷ 0 ∷ 0 ∷ 0 ∷ 0 ∷ 0 ∷ 0 ∷ 200 ∷ 66 ∷ 0 ∷ 0 ∷ 0 ∷ 0 ∷ 0 ∷ 0 ∷ 0 ∷ 0 ∷ [])
    ++ (4 ∷ 0 ∷ 0 ∷ 0 ∷ 6 ∷ 0 ∷ 0 ∷ 0 ∷ 72 ∷ 66 ∷ [])

-- "triangles 2 nodes 3 depth 2", "0 found 0 3f800000 00000000 00000000 41a20000 2", "1 nothing"
abbrev pub scope_lines : List ℕ
scope_lines =
    (116 ∷ 114 ∷ 105 ∷ 97 ∷ 110 ∷ 103 ∷ 108 ∷ 101 ∷ 115 ∷ 32 ∷ 50 ∷ 32 ∷ 110 ∷ 111 ∷ 100 ∷ 101 ∷ 115 ∷ 32 ∷ 51 ∷ 32 ∷ 100 ∷ 101 ∷ 112 ∷ 116 ∷ 104
    ∷ 32 ∷ 50 ∷ 10 ∷ [])
    ++ (48 ∷ 32 ∷ 102 ∷ 111 ∷ 117 ∷ 110 ∷ 100 ∷ 32 ∷ 48 ∷ 32 ∷ 51 ∷ 102 ∷ 56 ∷ 48 ∷ 48 ∷ 48 ∷ 48 ∷ 48 ∷ 32 ∷ 48 ∷ 48 ∷ 48 ∷ 48 ∷ 48 ∷ 48 ∷ 48
    ∷ 48 ∷ 32 ∷ 48 ∷ 48 ∷ 48 ∷ 48 ∷ 48 ∷ 48 ∷ 48 ∷ 48 ∷ 32 ∷ 52 ∷ 49 ∷ 97 ∷ 50 ∷ 48 ∷ 48 ∷ 48 ∷ 48 ∷ 32 ∷ 50 ∷ 10 ∷ [])
    ++ (49 ∷ 32 ∷ 110 ∷ 111 ∷ 116 ∷ 104 ∷ 105 ∷ 110 ∷ 103 ∷ 10 ∷ [])

-- ---- what the bytes hold
-- its bodies are those of two triangles and two points, without a rule
pub laid : laid_out gauge_wants scope_input 0 ≡ bodies (gauge_spans 2 2 false)
unfolding laid_out is_right is_record version_for little_at of_little gauge_spans
laid = refl

-- 5.5 is 11 / 2
abbrev pub request : Request
request =
    let n : ℕ → Float = λ k. of_int binary32 (pos k) in
    record {
      settings = record { strategy = 1; leaf_minimum = 1; maximum_depth = 40 };
      triangles = n 0 ∷ n 0 ∷ n 0 ∷ n 1 ∷ n 0 ∷ n 0 ∷ n 0 ∷ n 1 ∷ n 0 ∷ n 10 ∷ n 0 ∷ n 0 ∷ n 11 ∷ n 0 ∷ n 0 ∷ n 10 ∷ n 1 ∷ n 0 ∷ [];
      points = fin false 11 (negsuc 0) ∷ n 0 ∷ n 0 ∷ n 100 ∷ n 0 ∷ n 0 ∷ [];
      distance = n 50;
      rule = 1;
    }

request_is : request_in scope_input 2 2 false ≡ request
unfolding request_in concat_map little_at of_little of_bits of_int leaf_in settings_in
request_is = refl

-- ---- what is printed of it
asked_passes : request_refusal request ≡ passes
unfolding request_refusal first_refusal is_coordinate is_distance first_bad ragged_refusal none_refusal too_many_refusal coordinate_refusal triangles_refusal
    are_settings settings_refusal leaf_refusal rule_refusal points_refusal distance_refusal triangle_count of_int le
asked_passes = refl

tree_printed : tree_line request.triangles request.settings ≡ counts_line 2 3 2
unfolding tree_line sub mul div le of_int minus plus divided_by dot smallest largest union centre sizes volume unit reach meets_box box_of number_at point_at
    triangle_at box_at triangle_count node_count levels joined_to joined range inserted sorted union_of plane_between all_meet all_meet_at is_large
    are_both_large
    median_split grown axis_inserted axes_by_size rule tried_on tried_in tried_within tried built_tree
tree_printed = refl

abbrev pub first : Found
first = record { triangle = 0; x = 0x3f80_0000; y = 0; z = 0; squared = 0x41a2_0000; part = 2 }

answers_printed : answer_lines request.triangles request.points request.distance request.rule ≡ found_line 0 first ++ nothing_line 1
unfolding answer_lines answer_line concat_map point_count to_bits sub mul le of_int minus dot smallest largest is_finite plus_zero squared_distance held_in
    box_of
    dots part point_on part_number closest_spot held_spot number_at point_at triangle_at triangle_count fold rule_of limit_squared counts offered hit took_sure
    scan sure_answer range
answers_printed = refl

-- the whole
pub scope_run_printed : printed scope_input ≡ scope_lines
unfolding printed_run
scope_run_printed =
    sym (right_printed scope_input (omega arith) 2 2 false laid)
    ∙ ap printed_run request_is
    ∙ rw (asked_passes, tree_printed, answers_printed, counts_printed, found_printed, nothing_printed)
