-- What lists that passed the tests of a query give the searches, and what the loop over the points writes.
use mathlib.Core.Path.{◌≡◌, refl, sym, ap, subst, ◌∙◌}
use mathlib.Core.Bool.{Bool, true, false, not, true≢false}
use mathlib.Core.List.{List}
use Prim.Native.Nat.{ℕ, zero, suc, ◌+◌, ◌-◌, ◌*◌, ◌/◌, ◌≤◌, ◌<◌}
use native.Mathlib.Nat.{le_trans, mul_assoc, mul-suc, mul-le-mul_left, mul-div-le}
use native.Mathlib.Omega.{arith}
use borrow.Author.Tests.{leb-true}
use lib.Dec.{leb}
use lib.ListN.{length}
use lib.Ieee.{Float, Format}
use Rattle.spec_tables.specs.Tables.{overwrite, concat_map}
use Rattle.spec_tables.proofs.Tables.{length_concat_map, concat_map_same}
use Rattle.spec_tables.proofs.Runs.{Run, run_start, run_front, run_end}
use Rattle.spec_shapes.specs.Points.{Point}
use Rattle.spec_lists.specs.Limits.{deepest, max_triangles}
use Rattle.spec_lists.specs.Reading.{box_at, triangle_count, point_at, point_count}
use Rattle.spec_lists.specs.Refusals.{Verdict, passes, refuses, refused_if, after_verdict}
use Rattle.spec_numbers.proofs.Tests.{both_passed}
use Rattle.spec_lists.proofs.Verdicts.{all_pass, refusal_leaves, not_refused}
use Rattle.spec_lists.proofs.Passed.{triangles_passed, points_passed, room_passed, distance_passed}
use Rattle.spec_tree.specs.Trees.{Tree, numbers}
use Rattle.spec_tree.specs.Accepted.{Listing}
use Rattle.spec_tree.specs.Order.{EntriesBelow}
use Rattle.spec_tree.proofs.Order.{permutes_length}
use Rattle.spec_tree.proofs.Accepted.{accepted_listed, listing_some}
use Rattle.spec_tree.proofs.Hangs.{listing_hangs, listing_sound}
use Rattle.spec_tree.proofs.Unchanged.{tree_passed}
use Rattle.spec_search.specs.Answers.{Query, sure, few, source, Answer, nothing, found, answer_width, words_of}
use Rattle.spec_search.specs.Rules.{Rule, limit_of}
use Rattle.spec_search.specs.Safe.{NodeSafe}
use Rattle.spec_search.specs.Marked.{no_triangle}
use Rattle.spec_search.specs.Calls.{most_few, most_refusal, choice_refusal, most_by, query_refusal, answer_words, point_words, few_words, after_query, after_few, sure_answer, few_answer, Searchable, Askable}
use Rattle.spec_search.proofs.Few.{first_is_sure}

-- ---- an accepted tree is safe to walk from its root
module _ (triangles : List Float) (order links : List ℕ) (boxes : List Float) (nodes : ℕ) (s : Searchable triangles order links boxes nodes) where
  listed : (t : Tree) × Listing (box_at triangles) (triangle_count triangles) order links boxes nodes t
  listed = accepted_listed (box_at triangles) (triangle_count triangles) order links boxes nodes s.tree_accepted

  -- an accepted tree has a root, so a search can begin at the last node
  pub root_there : 1 ≤ nodes
  root_there = listing_some (box_at triangles) (triangle_count triangles) order links boxes nodes listed.0 listed.1

  -- the root of an accepted tree has what a walk needs, with nothing measured yet
  pub root_safe : NodeSafe triangles order links boxes (deepest - 1) (nodes - 1) 0
  root_safe =
      let l = listed.1 in
      let count : length (numbers listed.0) ≡ triangle_count triangles = ap length (sym l.order_is)
      ∙ permutes_length (triangle_count triangles) order l.permuted in
      let few : triangle_count triangles ≤ max_triangles = s.triangles_good.few in
      record {
        tree = listed.0;
        hangs = listing_hangs (box_at triangles) (triangle_count triangles) order links boxes nodes listed.0 l;
        deep = l.shallow;
        room = omega arith;
        listed = (listing_sound (box_at triangles) (triangle_count triangles) order links boxes nodes listed.0 l).entries;
      }

  -- every entry of the order list is a triangle's number, so none is the marker's
  pub entries_below : EntriesBelow (triangle_count triangles) order
  entries_below = root_safe.listed

  -- and there are fewer than the marker's number
  pub numbers_low : triangle_count triangles ≤ no_triangle
  numbers_low = omega (arith, s.triangles_good.few)

-- ---- the tests that passed
-- so many answers as may be asked for
pub most_passed : (most : ℕ) → most_refusal most ≡ passes → (1 ≤ most) × (most ≤ most_few)
unfolding most_refusal
most_passed most h =
    let both = both_passed (leb 1 most) (leb most most_few) (both_there _ 5 0 h) in
    (leb-true 1 most both.0, leb-true most most_few both.1)
  where
    both_there : (b : Bool) (number place : ℕ) → refused_if (not b) number place ≡ passes → b ≡ true
    both_there true number place e = refl
    both_there false number place e = absurd (true≢false (not_refused true number place e))

-- a query's own choices that passed: it has an answer a point, and 16 at most
pub choice_passed : (query : Query) → choice_refusal query ≡ passes → (1 ≤ most_by query) × (most_by query ≤ most_few)
choice_passed (sure rule) h = (omega arith, omega arith)
choice_passed (few rule most) h = most_passed most (all_pass _ h).1.0
choice_passed source h = (omega arith, omega arith)

-- room for so many answers of a width, in words or in bytes, as it is divided
pub room_for : (room width most n : ℕ) → n ≤ room / width / most → (width * most) * n ≤ room
room_for room width most n h =
    let all : most * n ≤ room / width = le_trans (mul-le-mul_left most h) (mul-div-le (room / width) most) in
    rw (mul_assoc width most n) (le_trans (mul-le-mul_left width all) (mul-div-le room width))

module _ (query : Query) (triangles : List Float) (order links : List ℕ) (boxes : List Float) (nodes : ℕ) (points : List Float) (distance : Float)
    (room : ℕ) where
  -- lists that pass the tests have what the searches need, and the lent list has room for all answers
  pub query_passed : query_refusal query triangles order links boxes nodes points distance room ≡ passes
      → Askable triangles order links boxes nodes points distance
      × (((answer_width * most_by query) * point_count points ≤ room) × ((1 ≤ most_by query) × (most_by query ≤ most_few)))
  unfolding query_refusal
  query_passed h =
      let all = all_pass _ h in (
        record {
          searchable = record {
            triangles_good = triangles_passed triangles all.0;
            tree_accepted = tree_passed triangles order links boxes nodes all.1.1.1.0;
          };
          points_good = points_passed points all.1.1.1.1.0;
          distance_good = distance_passed distance all.1.1.1.1.1.0;
        },
        (room_for room answer_width (most_by query) (point_count points) (room_passed _ _ all.1.1.0), choice_passed query all.1.0),
      )

-- ---- the lent list afterwards
-- every answer is as wide: the k-th of them stands at k times the width
pub answer_wide : (f : Format) (a : Answer) → length (words_of f a) ≡ answer_width
unfolding words_of
answer_wide f nothing = refl
answer_wide f (found h) = refl

-- so are the answers to a point
pub point_wide : (f : Format) (most : ℕ) (answer : ℕ → Answer) → length (point_words f most answer) ≡ answer_width * most
unfolding point_words
point_wide f most answer = length_concat_map _ answer_width most (λ j. answer_wide f (answer j))

-- one answer to a point is its words
pub one_place : (f : Format) (answer : ℕ → Answer) → point_words f 1 answer ≡ words_of f (answer 0)
unfolding point_words concat_map
one_place f answer = refl

-- the first of one is what a sure query answers
pub one_is_sure : (f : Format) (rule : Rule) (triangles : List Float) (distance : Float) (p : Point) (j : ℕ) → j < 1
    → few_answer f rule 1 triangles distance p j ≡ sure_answer f rule triangles distance p
unfolding few_answer sure_answer
one_is_sure f rule triangles distance p zero l = first_is_sure f triangles p 0 (limit_of f rule distance)
one_is_sure f rule triangles distance p (suc j) l = absurd (omega (arith, l))

-- answers that are the same place by place have the same words
pub point_words_same : (f : Format) (most : ℕ) (answer other : ℕ → Answer) → ((j : ℕ) → j < most → answer j ≡ other j)
    → point_words f most answer ≡ point_words f most other
unfolding point_words
point_words_same f most answer other e = concat_map_same _ _ most (λ j l. ap (words_of f) (e j l))

-- so do those to all points
pub few_words_same : (f : Format) (most : ℕ) (answer other : Point → ℕ → Answer) (points : List Float)
    → ((p : Point) (j : ℕ) → j < most → answer p j ≡ other p j) → few_words f most answer points ≡ few_words f most other points
unfolding few_words
few_words_same f most answer other points e =
    concat_map_same _ _ (point_count points) (λ k l. point_words_same f most _ _ (e (point_at points (3 * k))))

-- one answer a point: what is written is what the calls for one answer write
pub after_one : (f : Format) (answer : Point → Answer) (points : List Float) (v : Verdict) (old : List ℕ)
    → after_few f 1 (λ p j. answer p) points v old ≡ after_query f answer points v old
unfolding after_few after_query few_words answer_words
after_one f answer points v old =
    ap (λ (new : List ℕ). after_verdict v (overwrite 0 new old) old)
    (concat_map_same _ _ (point_count points) (λ k l. one_place f (λ j. answer (point_at points (3 * k)))))

module _ (f : Format) (most : ℕ) (answer : Point → ℕ → Answer) (points : List Float) (old : List ℕ) where
  -- on a refusal the lent list stays as it was
  pub as_it_was : (v : Verdict) → refuses v ≡ true → old ≡ after_few f most answer points v old
  unfolding after_few
  as_it_was v h = refusal_leaves v (overwrite 0 (few_words f most answer points) old) old h

  -- without a refusal the lent list has the answers at its front
  pub is_answered : (v : Verdict) (new : List ℕ) → v ≡ passes → new ≡ overwrite 0 (few_words f most answer points) old
      → new ≡ after_few f most answer points v old
  unfolding after_few
  is_answered v new e h = rw e h

  -- ---- the loop over the points
  abbrev piece : ℕ → List ℕ
  piece k = point_words f most (answer (point_at points (3 * k)))

  -- the answers to k of n points stand at the front of out
  abbrev pub Answered : (n : ℕ) (out : List ℕ) (k : ℕ) → Type 0
  Answered n out k = Run piece 0 n old out k

  -- start: no answer is written
  pub answered_start : (n : ℕ) → Answered n old 0
  answered_start n = run_start piece (answer_width * most) 0 n old

  -- turn: the next point's answers are written behind the others
  pub answered_more : (n : ℕ) (out new : List ℕ) (k : ℕ) (words : List ℕ) → (answer_width * most) * n ≤ length old → k < n → Answered n out k
      → words ≡ point_words f most (answer (point_at points (3 * k))) → new ≡ overwrite ((answer_width * most) * k) words out → Answered n new (k + 1)
  answered_more n out new k words room l r e h =
      run_front piece (answer_width * most) n old out new k (λ j. point_wide f most (answer (point_at points (3 * j)))) room l r
      (h ∙ ap (λ (w : List ℕ). overwrite ((answer_width * most) * k) w out) e)

  -- the next point's answers have room
  pub answers_room : (n : ℕ) (out : List ℕ) (k : ℕ) → (answer_width * most) * n ≤ length old → k < n → Answered n out k
      → (answer_width * most) * k + answer_width * most ≤ length out
  answers_room n out k room l r =
      let turn : (answer_width * most) * k + answer_width * most ≡ (answer_width * most) * suc k = sym (mul-suc (answer_width * most) k) in
      subst (λ (m : ℕ). (answer_width * most) * k + answer_width * most ≤ m) (sym r.long)
      (subst (λ (m : ℕ). m ≤ length old) (sym turn) (le_trans (mul-le-mul_left (answer_width * most) l) room))

  -- end: every point is answered, and what is behind the answers is as it was
  pub answered_end : (n : ℕ) (out : List ℕ) (k : ℕ) → n ≡ point_count points → n ≤ k → Answered n out k
      → out ≡ overwrite 0 (few_words f most answer points) old
  unfolding few_words
  answered_end n out k e l r = run_end piece 0 n old out k l r ∙ ap (λ (m : ℕ). overwrite 0 (concat_map piece m) old) e
