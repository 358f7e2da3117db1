-- The lines made from the words that a query wrote are the lines of its answers: the program prints from the list that the query filled.
use mathlib.Core.Path.{◌≡◌, refl, sym, ap, ◌∙◌}
use mathlib.Core.List.{List, ◌++◌}
use Prim.Native.Nat.{ℕ, ◌+◌, ◌*◌, ◌<◌, ◌≤◌}
use native.Mathlib.Nat.{zero-add, add-zero}
use native.Mathlib.Omega.{arith}
use lib.ListN.{length, get_or, drop}
use lib.Ieee.{Float, binary32}
use borrow.Author.Tests.{ne_eqb}
use Rattle.spec_tables.specs.Tables.{overwrite, concat_map, slice, Remaining, Put}
use Rattle.spec_tables.proofs.Tables.{concat_map_same, put_none, put_more, put_long}
use Rattle.spec_tables.proofs.Pieces.{get_d_slice, remaining_concat_map}
use Rattle.spec_printing.specs.Printed.{found_line, longest_found, nothing_line}
use Rattle.spec_shapes.specs.Points.{Point}
use Rattle.spec_lists.specs.Reading.{point_at, point_count}
use Rattle.spec_search.specs.Answers.{Answer, nothing, found, answer_width, words_of}
use Rattle.spec_search.specs.Rules.{rule_of}
use Rattle.spec_search.specs.Calls.{answer_words, sure_answer}
use Rattle.spec_search.proofs.Calls.{answer_wide}
use Rattle.spec_gauge.specs.Printed.{answer_line, answer_lines}
use Rattle.spec_gauge.specs.Lines.{words_line}

module _ (words : List ℕ) (k : ℕ) where
  -- where the first of an answer's words is 0, the line says that nothing was found
  pub nothing_words : get_or words (answer_width * k) 0 ≡ 0 → nothing_line k ≡ words_line words k
  unfolding words_line
  nothing_words e = rw e

  -- where the first of an answer's words is not 0, the line shows those behind it
  pub found_words : (triangle part : ℕ) → (get_or words (answer_width * k) 0 ≡ 0 → ⊥) → triangle ≡ get_or words (answer_width * k + 1) 0
      → part ≡ get_or words (answer_width * k + 6) 0
      → found_line k (record {
        triangle = triangle;
        x = get_or words (answer_width * k + 2) 0;
        y = get_or words (answer_width * k + 3) 0;
        z = get_or words (answer_width * k + 4) 0;
        squared = get_or words (answer_width * k + 5) 0;
        part = part;
      }) ≡ words_line words k
  unfolding words_line
  found_words triangle part n e h = rw (ne_eqb (get_or words (answer_width * k) 0) 0 n, e, h)

  word : (a : Answer) → slice words (answer_width * k) answer_width ≡ words_of binary32 a → (i : ℕ) → i < answer_width
      → get_or words (answer_width * k + i) 0 ≡ get_or (words_of binary32 a) i 0
  word a e i l = sym (get_d_slice 0 words (answer_width * k) answer_width i l) ∙ ap (λ (s : List ℕ). get_or s i 0) e

  first : (a : Answer) → slice words (answer_width * k) answer_width ≡ words_of binary32 a → get_or words (answer_width * k) 0
      ≡ get_or (words_of binary32 a) 0 0
  first a e = rw add-zero at (word a e 0 (omega arith))

  words_line_lem : (a : Answer) → slice words (answer_width * k) answer_width ≡ words_of binary32 a → words_line words k ≡ answer_line k a
  unfolding words_line answer_line words_of
  words_line_lem nothing e = rw (first nothing e)
  words_line_lem (found h) e =
      rw (
        first (found h) e,
        word (found h) e 1 (omega arith),
        word (found h) e 2 (omega arith),
        word (found h) e 3 (omega arith),
        word (found h) e 4 (omega arith),
        word (found h) e 5 (omega arith),
        word (found h) e 6 (omega arith),
      )

module _ (answer : Point → Answer) (points : List Float) (old words : List ℕ) (e : words ≡ overwrite 0 (answer_words binary32 answer points) old) where
  pieces : ℕ → List ℕ
  pieces k = words_of binary32 (answer (point_at points (3 * k)))

  words_remaining : Remaining words 0 (concat_map pieces (point_count points) ++ drop (0 + length (answer_words binary32 answer points)) old)
  unfolding overwrite answer_words pieces
  words_remaining = record { within = omega arith; remaining = e }

  lines_of_words : concat_map (words_line words) (point_count points) ≡ concat_map (λ k. answer_line k (answer (point_at points (3 * k)))) (point_count points)
  unfolding pieces
  lines_of_words =
      concat_map_same (words_line words) (λ k. answer_line k (answer (point_at points (3 * k)))) (point_count points)
      (λ k l. words_line_lem words k (answer (point_at points (3 * k)))
      (rw zero-add at (remaining_concat_map pieces answer_width (point_count points) words 0 _ (λ j. answer_wide binary32 (answer (point_at points (3 * j))))
      words_remaining k l)))

-- the lines made from the sure query's words are the lines of its answers, point by point
pub sure_lines : (triangles points : List Float) (distance : Float) (rule : ℕ) (old words : List ℕ)
    → words ≡ overwrite 0 (answer_words binary32 (sure_answer binary32 (rule_of rule) triangles distance) points) old
    → concat_map (words_line words) (point_count points) ≡ answer_lines triangles points distance rule
unfolding answer_lines
sure_lines triangles points distance rule old words e = lines_of_words (sure_answer binary32 (rule_of rule) triangles distance) points old words e

-- ---- the loop over the lines: k of n stand one behind the other, each in no more than the longest takes
pub record Lined (f : ℕ → List ℕ) (at n : ℕ) (old out : List ℕ) (next k : ℕ) : Type 0 where
  pub within : k ≤ n
  pub put : Put at (concat_map f k) old out next
  pub room : next ≤ at + longest_found * k
  pub long : length out ≡ length old

module _ (f : ℕ → List ℕ) (at n : ℕ) (old : List ℕ) where
  -- before the first turn no line is written
  pub lined_start : at ≤ length old → Lined f at n old old at 0
  unfolding concat_map
  lined_start h = record { within = omega arith; put = put_none at old h; room = omega arith; long = refl }

  -- a turn of the loop writes the next line behind the others
  pub lined_more : (mid out : List ℕ) (next end k : ℕ) → k < n → Lined f at n old mid next k → Put next (f k) mid out end → end ≤ next + longest_found
      → Lined f at n old out end (k + 1)
  lined_more mid out next end k l r p h = record {
    within = omega arith;
    put = put_more f k r.put p;
    room = omega (arith, r.room);
    long = put_long p ∙ r.long;
  }

  -- after the last turn the lines stand one behind the other
  pub lined_end : (out : List ℕ) (next k : ℕ) → n ≤ k → Lined f at n old out next k → Put at (concat_map f n) old out next
  lined_end out next k l r =
      let e : k ≡ n = omega (arith, r.within) in
      rw e at r.put
