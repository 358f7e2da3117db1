-- The scope document's input with record 7: the first rule prints what the input without it does, a third is refused. And with its first point
-- as far from both triangles as the distance: by the first rule nothing is found, by the second the first triangle is.
use mathlib.Core.Path.{◌≡◌, refl, sym, ap, ◌∙◌}
use mathlib.Core.Bool.{true, false}
use mathlib.Core.List.{List, [], ◌∷◌, ◌++◌}
use Prim.Native.Nat.{ℕ}
use native.Mathlib.Omega.{arith}
use lib.IntN.{negsuc}
use lib.Ieee.{fin, nan, sub, mul, le, of_int, of_bits, to_bits}
use Rattle.spec_tables.specs.Tables.{concat_map}
use Rattle.spec_shapes.specs.Points.{minus, dot, smallest, largest, is_finite, plus_zero, squared_distance}
use Rattle.spec_shapes.specs.Boxes.{held_in}
use Rattle.spec_shapes.specs.Triangles.{box_of, dots, part, point_on, part_number, closest_spot, held_spot}
use Rattle.spec_lists.specs.Reading.{number_at, point_at, triangle_at, triangle_count, point_count}
use Rattle.spec_lists.specs.Refusals.{refused, first_refusal, is_coordinate, is_distance, first_bad, ragged_refusal, none_refusal, too_many_refusal, coordinate_refusal}
use Rattle.spec_lists.specs.Refusals.{triangles_refusal, are_settings, settings_refusal, points_refusal, distance_refusal}
use Rattle.spec_tree.specs.Order.{range}
use Rattle.spec_search.specs.Walk.{fold}
use Rattle.spec_search.specs.Rules.{rule_of, rule_refusal, limit_squared, counts}
use Rattle.spec_search.specs.Sure.{offered, hit, took_sure, scan}
use Rattle.spec_search.specs.Calls.{sure_answer}
use Rattle.spec_records.specs.Little.{little_at, of_little}
use Rattle.spec_records.specs.Records.{bodies, is_record, is_right, laid_out}
use Rattle.spec_records.specs.Layouts.{version_for, gauge_wants, gauge_spans}
use Rattle.spec_image.specs.Image.{leaf_in, settings_in}
use Rattle.spec_image.specs.Writing.{leaf_refusal}
use Rattle.spec_printing.specs.Printed.{found_line, nothing_line, refused_line}
use Rattle.spec_gauge.specs.Printed.{Request, request_in, request_refusal, answer_line, answer_lines, printed_run, printed}
use Rattle.spec_gauge.proofs.Printed.{right_printed, refused_printed}
use Rattle.spec_gauge.proofs.PrintedRun.{scope_input, scope_lines, request, first, laid, scope_run_printed}
use Rattle.spec_gauge.proofs.LeftOut.{left_out_is_one}

-- the input with its rule told
abbrev told : (rule : ℕ) → List ℕ
told rule = scope_input ++ (2 ∷ 0 ∷ 0 ∷ 0 ∷ 7 ∷ 0 ∷ rule ∷ 0 ∷ [])

told_laid : (rule : ℕ) → laid_out gauge_wants (told rule) 0 ≡ bodies (gauge_spans 2 2 true)
unfolding laid_out is_right is_record version_for little_at of_little gauge_spans
told_laid rule = refl

-- what it holds
abbrev asks : (rule : ℕ) → Request
asks rule =
    record {
      settings = request.settings;
      triangles = request.triangles;
      points = request.points;
      distance = request.distance;
      rule = rule;
    }

-- ---- the first rule told
-- it prints the three lines of the input that tells none
pub first_rule_printed : printed (told 1) ≡ scope_lines
first_rule_printed = left_out_is_one scope_input 2 2 laid (omega arith) ∙ scope_run_printed

-- ---- a third
third_told : request_in (told 3) 2 2 true ≡ asks 3
unfolding request_in concat_map little_at of_little of_bits of_int leaf_in settings_in
third_told = refl

third_refused : request_refusal (asks 3) ≡ refused 5 0
unfolding request_refusal first_refusal is_coordinate is_distance first_bad ragged_refusal none_refusal too_many_refusal coordinate_refusal triangles_refusal
    are_settings settings_refusal leaf_refusal rule_refusal points_refusal distance_refusal triangle_count of_int le
third_refused = refl

-- 5 comes before 8 and 9
third_first : request_refusal (record {
  settings = request.settings;
  triangles = request.triangles;
  points = nan ∷ nan ∷ nan ∷ [];
  distance = nan;
  rule = 3;
}) ≡ refused 5 0
unfolding request_refusal first_refusal is_coordinate is_distance first_bad ragged_refusal none_refusal too_many_refusal coordinate_refusal triangles_refusal
    are_settings settings_refusal leaf_refusal rule_refusal points_refusal distance_refusal triangle_count of_int le
third_first = refl

-- it is refused as 5 at 0
pub third_rule_printed : printed (told 3) ≡ refused_line 5 0
third_rule_printed =
    sym (right_printed (told 3) (omega arith) 2 2 true (told_laid 3)) ∙ ap printed_run third_told ∙ sym (refused_printed (asks 3) 5 0 third_refused)

-- ---- at the distance
abbrev lines : (rule : ℕ) → List ℕ
lines rule = answer_lines request.triangles request.points (fin false 9 (negsuc 0)) rule

-- at 4.5, which is 9 / 2, nothing is found by the first rule
pub nothing_at_the_distance : lines 1 ≡ nothing_line 0 ++ nothing_line 1
unfolding answer_lines answer_line concat_map point_count to_bits sub mul le of_int minus dot smallest largest is_finite plus_zero squared_distance held_in
    box_of
    dots part point_on part_number closest_spot held_spot number_at point_at triangle_at triangle_count fold rule_of limit_squared counts offered hit
    took_sure scan sure_answer range
nothing_at_the_distance = refl

-- and by the second what is found at 50
pub found_at_the_distance : lines 2 ≡ found_line 0 first ++ nothing_line 1
unfolding answer_lines answer_line concat_map point_count to_bits sub mul le of_int minus dot smallest largest is_finite plus_zero squared_distance held_in
    box_of
    dots part point_on part_number closest_spot held_spot number_at point_at triangle_at triangle_count fold rule_of limit_squared counts offered hit
    took_sure scan sure_answer range
found_at_the_distance = refl
