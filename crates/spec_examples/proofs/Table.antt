-- The worked examples hold of the definitions, in either format, by computation: a definition that strays from the scope document does not prove.
use mathlib.Core.Path.{refl}
use mathlib.Core.List.{◌++◌}
use lib.Ieee.{Format, binary32, binary64, add, sub, mul, div, lt, le, eq, round, of_int, of_bits}
use Rattle.spec_shapes.specs.Points.{minus, plus, scale, divided_by, dot, smallest, largest, is_under, is_finite, plus_zero, squared_distance}
use Rattle.spec_shapes.specs.Boxes.{union, centre, sizes, area, volume, offset_on, offset, with_excess, with_outside, box_squared, contains_point, held_in}
use Rattle.spec_shapes.specs.Planes.{unit, reach, meets_box}
use Rattle.spec_shapes.specs.Triangles.{box_of, dots, crossed, part, along, face_point, point_on, part_number, closest_spot, foot, finite_or, held_foot, foot_part, foot_spot, nearer_foot, nearest_foot, held_spot}
use Rattle.spec_angles.specs.Root.{whole_root, root_by, root_in, root}
use Rattle.spec_angles.specs.Table.{arcs, entry}
use Rattle.spec_angles.specs.Angle.{arc, ratio, mirrored, angle}
use Rattle.spec_lists.specs.Reading.{number_at, point_at, triangle_at, box_at, triangle_count}
use Rattle.spec_tree.specs.Trees.{numbers, node_count, joined_to, joined, box_over, root_from, links_from, boxes_of}
use Rattle.spec_tree.specs.Order.{range}
use Rattle.spec_sort.specs.Sort.{inserted, sorted}
use Rattle.spec_splits.specs.Splits.{union_of}
use Rattle.spec_splits.specs.Median.{plane_between, all_meet, all_meet_at, is_large, are_both_large, median_split}
use Rattle.spec_build.specs.Grown.{grown}
use Rattle.spec_build.specs.Tries.{axis_inserted, axes_by_size, rule, tried_on, tried_in, tried_within, tried}
use Rattle.spec_build.specs.Build.{built_tree}
use Rattle.spec_search.specs.Walk.{took_all, node_walk, pair_walk, root_walk, fold}
use Rattle.spec_search.specs.Rules.{limit_squared, counts}
use Rattle.spec_search.specs.Sure.{offered, hit, took_sure, scan}
use Rattle.spec_search.specs.Source.{source_hit, keep_smaller, took_source, enters, source_walk}
use Rattle.spec_search.specs.Calls.{sure_answer, source_answer}
use Rattle.spec_examples.specs.Table.{AllHold}
use Rattle.spec_examples.specs.Shapes.{shape_examples}
use Rattle.spec_examples.specs.Angles.{angle_examples}
use Rattle.spec_examples.specs.Queries.{query_examples, e10_tree}

-- all worked examples, E1 to E10, come out as the scope document gives them
pub examples_hold : (f : Format) → AllHold (shape_examples f ++ (angle_examples f ++ query_examples f))
unfolding add sub mul div lt le eq round of_int of_bits minus plus scale divided_by dot smallest largest is_under is_finite plus_zero squared_distance union
    centre
    sizes area volume offset_on offset with_excess with_outside box_squared contains_point held_in unit reach meets_box box_of dots crossed part along
    face_point
    point_on part_number closest_spot foot finite_or held_foot foot_part foot_spot nearer_foot nearest_foot held_spot whole_root root_by root_in root arcs
    entry arc ratio
    mirrored angle number_at point_at triangle_at box_at triangle_count numbers node_count joined_to joined box_over root_from links_from boxes_of range
    inserted sorted
    union_of plane_between all_meet all_meet_at is_large are_both_large median_split grown axis_inserted axes_by_size rule tried_on tried_in tried_within
    tried built_tree
    took_all node_walk pair_walk root_walk fold limit_squared counts offered hit took_sure scan source_hit keep_smaller took_source enters source_walk
    sure_answer
    source_answer e10_tree
examples_hold binary32 = refl
examples_hold binary64 = refl
