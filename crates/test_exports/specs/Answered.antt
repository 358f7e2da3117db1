-- What the timed calls answer in one number.
use Rattle.std.specs.Prelude.{◌≡◌, cond, List, ℕ, leb, eqb, length, Float, Result, Ok, Err}
use Rattle.std.specs.Float.{Format, nan}
use Rattle.lists.specs.declared.refusal.Refusal.{Refusal}
use Rattle.spec_shapes.specs.Points.{Point}
use Rattle.spec_lists.specs.Reading.{box_at, triangle_at, triangle_count, point_at}
use Rattle.spec_lists.specs.Refusals.{Verdict, passes, refused, refuses, triangles_refusal, distance_refusal, Settings}
use Rattle.spec_tree.specs.Accepted.{accepted}
use Rattle.spec_tree.specs.Depth.{DepthFound, deep, not_deep}
use Rattle.spec_build.specs.Build.{Lists, Built, made, not_made, BuildIs}
use Rattle.spec_search.specs.Rules.{rule_of, limit_of}
use Rattle.spec_search.specs.Few.{few_walk}
use Rattle.spec_search.specs.Calls.{most_refusal}
use Rattle.spec_angles.specs.Winding.{solid_angle}

-- 1 where it passed, else 0
abbrev pub one_passed : Verdict → ℕ
one_passed passes = 1
one_passed (refused number place) = 0

-- the depth that is read off the lists, 0 where they are refused
abbrev pub depth_read : DepthFound → ℕ
depth_read (deep depth) = depth
depth_read (not_deep number place) = 0

-- the nodes of a build, 0 for a refusal
abbrev pub nodes_answered : Built → ℕ
nodes_answered (made nodes depth) = nodes
nodes_answered (not_made number place) = 0

-- the depth of a build, 0 for a refusal
abbrev pub depth_answered : Built → ℕ
depth_answered (made nodes depth) = depth
depth_answered (not_made number place) = 0

-- how many there are, none for a refusal
abbrev pub or_none : Result ℕ Refusal → ℕ
or_none (Ok n) = n
or_none (Err refusal) = 0

-- a build, of whose answer the call returns one number
pub record BuildAnswered (answered : Built → ℕ) (f : Format) (triangles : List Float) (s : Settings) (old : Lists) (r : ℕ) (new : Lists) : Type 0 where
  pub answer : Built
  pub built : BuildIs f triangles s old answer new
  pub answered_is : r ≡ answered answer

-- how many triangles the search for so many measures for a point, by the rule; 0 where the distance is refused, or so many
unfoldable pub measured_at : Format
    → (triangles : List Float) (order links : List ℕ) (boxes : List Float) (nodes : ℕ) (distance : Float) (rule most : ℕ) → Point → ℕ
measured_at f triangles order links boxes nodes distance rule most p =
    cond (refuses (distance_refusal distance)) 0
    (cond (refuses (most_refusal most)) 0 (few_walk f triangles order links boxes nodes p most (limit_of f (rule_of rule) distance)).measured)

-- and for the first point; 0 where the lists do not pass or there is no point
unfoldable pub measured_first : Format
    → (triangles : List Float) (order links : List ℕ) (boxes : List Float) (nodes : ℕ) (points : List Float) (distance : Float) (rule most : ℕ) → ℕ
measured_first f triangles order links boxes nodes points distance rule most =
    cond (refuses (triangles_refusal triangles)) 0
    (cond (accepted (box_at triangles) (triangle_count triangles) order links boxes nodes)
    (cond (leb 3 (length points)) (measured_at f triangles order links boxes nodes distance rule most (point_at points 0)) 0)
    0)

-- the solid angle of one triangle from one point, a NaN where there are more or fewer
unfoldable pub angle_of_one : Format → (triangle point : List Float) → Float
angle_of_one f triangle point =
    cond (eqb (length triangle) 9) (cond (eqb (length point) 3) (solid_angle f (triangle_at triangle 0) (point_at point 0)) nan) nan
