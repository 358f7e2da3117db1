-- The public queries over lists of points: what they refuse, and what they write, an answer a point or so many of them.
use Rattle.std.specs.Prelude.{◌≡◌, true, not, ◌&&◌, List, [], ◌∷◌, ℕ, ◌*◌, ◌/◌, leb, Float}
use Rattle.std.specs.Float.{Format}
use Rattle.spec_tables.specs.Tables.{overwrite, concat_map}
use Rattle.spec_shapes.specs.Points.{Point}
use Rattle.spec_lists.specs.Reading.{box_at, triangle_count, point_at, point_count}
use Rattle.spec_lists.specs.Passed.{GoodTriangles, GoodPoints, GoodDistance}
use Rattle.spec_lists.specs.Refusals.{Verdict, passes, refused_if, first_refusal, triangles_refusal, room_refusal, points_refusal, distance_refusal, after_verdict}
use Rattle.spec_tree.specs.Accepted.{accepted}
use Rattle.spec_tree.specs.Refusals.{tree_refusal}
use Rattle.spec_search.specs.Answers.{Query, sure, few, source, Answer, answer_width, words_of}
use Rattle.spec_search.specs.Rules.{Rule, rule_of, rule_refusal, limit_squared, limit_of}
use Rattle.spec_search.specs.Sure.{scan}
use Rattle.spec_search.specs.Few.{scan_few, answer_in}
use Rattle.spec_search.specs.Source.{source_walk}

-- how many answers a point has at most
abbrev pub most_few : ℕ
most_few = 16

-- 5: so many answers a point, other than 1 to 16
unfoldable pub most_refusal : ℕ → Verdict
most_refusal most = refused_if (not (leb 1 most && leb most most_few)) 5 0

-- 5 of a sure query's rule, and of how many answers are asked for; the source query has neither
abbrev pub choice_refusal : Query → Verdict
choice_refusal (sure rule) = rule_refusal rule
choice_refusal (few rule most) = first_refusal (rule_refusal rule ∷ most_refusal most ∷ [])
choice_refusal source = passes

-- how many answers a point has
abbrev pub most_by : Query → ℕ
most_by (sure rule) = 1
most_by (few rule most) = most
most_by source = 1

-- 1 to 6, 71 to 75, 8, 9, the first that applies; `room` is the lent list's length, an answer takes its width of it, and a point so many answers
unfoldable pub query_refusal : Query → (triangles : List Float) (order links : List ℕ) (boxes : List Float) (nodes : ℕ) (points : List Float)
    (distance : Float) (room : ℕ) → Verdict
query_refusal query triangles order links boxes nodes points distance room =
    first_refusal
    (triangles_refusal triangles
    ∷ choice_refusal query ∷ room_refusal (room / answer_width / most_by query) (point_count points)
    ∷ tree_refusal triangles order links boxes nodes
    ∷ points_refusal points
    ∷ distance_refusal distance
    ∷ [])

-- the answers to all points, concatenated
unfoldable pub answer_words : Format → (Point → Answer) → List Float → List ℕ
answer_words f answer points = concat_map (λ k. words_of f (answer (point_at points (3 * k)))) (point_count points)

-- so many answers to a point, by their places, concatenated
unfoldable pub point_words : Format → ℕ → (ℕ → Answer) → List ℕ
point_words f most answer = concat_map (λ j. words_of f (answer j)) most

-- and those to all points
unfoldable pub few_words : Format → ℕ → (Point → ℕ → Answer) → List Float → List ℕ
few_words f most answer points = concat_map (λ k. point_words f most (answer (point_at points (3 * k)))) (point_count points)

-- the lent list afterwards: the answers from the front, what was there behind them; on a refusal as it was
unfoldable pub after_query : Format → (Point → Answer) → List Float → Verdict → List ℕ → List ℕ
after_query f answer points verdict old = after_verdict verdict (overwrite 0 (answer_words f answer points) old) old

-- the same with so many answers a point
unfoldable pub after_few : Format → ℕ → (Point → ℕ → Answer) → List Float → Verdict → List ℕ → List ℕ
after_few f most answer points verdict old = after_verdict verdict (overwrite 0 (few_words f most answer points) old) old

-- what a sure query answers at a point: the scan alone, whatever accepted tree is used
unfoldable pub sure_answer : Format → Rule → (triangles : List Float) (distance : Float) → Point → Answer
sure_answer f rule triangles distance p = scan f triangles p (limit_of f rule distance)

-- what a query for the nearest few answers at a point, by place: the scan alone, too
unfoldable pub few_answer : Format → Rule → (most : ℕ) (triangles : List Float) (distance : Float) → Point → ℕ → Answer
few_answer f rule most triangles distance p j = answer_in (scan_few f triangles p most (limit_of f rule distance)) j

-- what a source query answers at a point
unfoldable pub source_answer : Format → (triangles : List Float) (order links : List ℕ) (boxes : List Float) (nodes : ℕ) (distance : Float) → Point → Answer
source_answer f triangles order links boxes nodes distance p = (source_walk f triangles order links boxes nodes p (limit_squared f distance)).best

-- what any query answers at a point, by place
abbrev pub answer_by : Format → Query → (triangles : List Float) (order links : List ℕ) (boxes : List Float) (nodes : ℕ) (distance : Float) → Point → ℕ
    → Answer
answer_by f (sure rule) triangles order links boxes nodes distance p j = sure_answer f (rule_of rule) triangles distance p
answer_by f (few rule most) triangles order links boxes nodes distance p j = few_answer f (rule_of rule) most triangles distance p j
answer_by f source triangles order links boxes nodes distance p j = source_answer f triangles order links boxes nodes distance p

-- ---- what the inner searches need
-- triangles and a tree that passed their tests: a search tests nothing itself
pub record Searchable (triangles : List Float) (order links : List ℕ) (boxes : List Float) (nodes : ℕ) : Type 0 where
  pub triangles_good : GoodTriangles triangles
  pub tree_accepted : accepted (box_at triangles) (triangle_count triangles) order links boxes nodes ≡ true

-- points and a distance that passed theirs, too
pub record Askable (triangles : List Float) (order links : List ℕ) (boxes : List Float) (nodes : ℕ) (points : List Float) (distance : Float) : Type 0 where
  pub searchable : Searchable triangles order links boxes nodes
  pub points_good : GoodPoints points
  pub distance_good : GoodDistance distance
