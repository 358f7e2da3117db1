-- What `gauge` prints, of the bytes that came in: a refusal, or the counts and a line a point.
use Rattle.std.specs.Prelude.{ℕ, ◌+◌, ◌*◌, ◌/◌, ◌≤◌, List, [], ◌∷◌, ◌++◌, Bool, cond, ltb, eqb, length, Float}
use Rattle.std.specs.Float.{binary32}
use Rattle.std.specs.Float.Ieee.{of_bits, to_bits}
use Rattle.spec_tables.specs.Tables.{concat_map}
use Rattle.spec_records.specs.Little.{little_at}
use Rattle.spec_records.specs.Entries.{floats_in}
use Rattle.spec_records.specs.Records.{Layout, wrong, bodies, laid_out}
use Rattle.spec_records.specs.Layouts.{version1, points_start, distance_start, rule_start, gauge_wants}
use Rattle.spec_image.specs.Image.{settings_in}
use Rattle.spec_image.specs.Reading.{size_of}
use Rattle.spec_image.specs.Writing.{leaf_refusal}
use Rattle.spec_printing.specs.Printed.{counts_line, found_line, longest_found, nothing_line, refused_line}
use Rattle.spec_lists.specs.Reading.{triangle_count, point_at, point_count}
use Rattle.spec_lists.specs.Refusals.{Verdict, passes, refused, first_refusal, Settings, triangles_refusal, settings_refusal, points_refusal, distance_refusal}
use Rattle.spec_tree.specs.Trees.{node_count, levels}
use Rattle.spec_build.specs.Build.{built_tree}
use Rattle.spec_search.specs.Answers.{Answer, nothing, found}
use Rattle.spec_search.specs.Rules.{rule_of, rule_refusal}
use Rattle.spec_search.specs.Calls.{sure_answer}

-- more bytes than these are refused unread
abbrev pub max_bytes : ℕ
max_bytes = 32768

-- how long an input of t triangles and p points is: a rule takes eight bytes with its header
abbrev pub input_size : ℕ → ℕ → (ruled : Bool) → ℕ
input_size t p ruled = 36 + 36 * t + 12 * p + cond ruled 8 0

-- ---- what the records hold
-- a request: what the records of an input hold
pub record Request : Type 0 where
  pub settings : Settings
  pub triangles : List Float
  pub points : List Float
  pub distance : Float
  pub rule : ℕ

-- the rule of an input that tells none: parts that were gauged before there was another are gauged as they were
abbrev pub rule_left_out : ℕ
rule_left_out = 1

-- the rule's number, as it is told or left out
abbrev pub rule_in : List ℕ → ℕ → ℕ → (ruled : Bool) → ℕ
rule_in s t p ruled = cond ruled (little_at 2 s (rule_start t p)) rule_left_out

-- of an input of t triangles and p points, whose bodies start at 6, 20, 26 + 36t, 32 + 36t + 12p and, if it has a rule, 42 + 36t + 12p;
-- of version 1, since no more than 909 triangles fit
unfoldable pub request_in : List ℕ → ℕ → ℕ → (ruled : Bool) → Request
request_in s t p ruled = record {
  settings = settings_in version1 s;
  triangles = floats_in binary32 s 20 (9 * t);
  points = floats_in binary32 s (points_start t) (3 * p);
  distance = of_bits binary32 (little_at 4 s (distance_start t p));
  rule = rule_in s t p ruled;
}

-- ---- refusals 1 to 5, 8, 9; 1 and 3 cannot come up, since a body has whole triangles and no more than 909 fit
-- 5 also of a leaf minimum that version 1 does not keep: a request is of that version; and of a rule that there is not
unfoldable pub request_refusal : Request → Verdict
request_refusal a =
    first_refusal
    (triangles_refusal a.triangles
    ∷ settings_refusal a.settings
    ∷ leaf_refusal version1 a.settings
    ∷ rule_refusal a.rule
    ∷ points_refusal a.points
    ∷ distance_refusal a.distance
    ∷ [])

-- ---- the lines
-- nothing, or the triangle, the bits of point and squared distance, and the part
unfoldable pub answer_line : ℕ → Answer → List ℕ
answer_line k nothing = nothing_line k
answer_line k (found h) = found_line k (record {
  triangle = h.triangle;
  x = to_bits binary32 h.point.x;
  y = to_bits binary32 h.point.y;
  z = to_bits binary32 h.point.z;
  squared = to_bits binary32 h.squared;
  part = h.part;
})

-- a line a point, of the sure query's answers under the rule
unfoldable pub answer_lines : (triangles points : List Float) (distance : Float) (rule : ℕ) → List ℕ
answer_lines triangles points distance rule =
    concat_map (λ k. answer_line k (sure_answer binary32 (rule_of rule) triangles distance (point_at points (3 * k)))) (point_count points)

-- the counts and the depth of the tree that is built
unfoldable pub tree_line : List Float → Settings → List ℕ
tree_line triangles settings =
    let t = built_tree binary32 triangles settings in
    counts_line (triangle_count triangles) (node_count t) (levels t)

-- a refusal's line is all that is printed
abbrev pub by_verdict : Verdict → List ℕ → List ℕ
by_verdict passes lines = lines
by_verdict (refused number place) lines = refused_line number place

-- what is printed of a request
unfoldable pub printed_run : Request → List ℕ
printed_run a =
    by_verdict (request_refusal a)
    (tree_line a.triangles a.settings ++ answer_lines a.triangles a.points a.distance a.rule)

-- ---- the whole
-- by the layout: the second body is the triangles', the third the points', and the fifth, if there is one, the rule's
abbrev pub by_layout : List ℕ → Layout → List ℕ
by_layout s (wrong at) = refused_line 10 at
by_layout s (bodies spans) = printed_run (request_in s (size_of spans 1 / 36) (size_of spans 2 / 12) (eqb (length spans) 5))

-- what is printed of any bytes
unfoldable pub printed : List ℕ → List ℕ
printed s = cond (ltb max_bytes (length s)) (refused_line 10 0) (by_layout s (laid_out gauge_wants s 0))

-- ---- what fits
-- no more triangles and no more points than these fit in an input of the maximum size
abbrev pub max_gauged : ℕ
max_gauged = 909

abbrev pub max_points : ℕ
max_points = 2730

-- the longest run, a tree's line of 85 bytes and the points': the room that the program lends
abbrev pub max_printed : ℕ
max_printed = 85 + longest_found * max_points

-- the lists are no longer than what fits, and out has room
pub record Fits (triangles points : List Float) (out : List ℕ) : Type 0 where
  pub triangles_few : triangle_count triangles ≤ max_gauged
  pub points_few : point_count points ≤ max_points
  pub room : max_printed ≤ length out
