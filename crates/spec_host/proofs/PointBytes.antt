-- What is read of point bytes, what bytes that passed give, and what a loop over the points writes.
use mathlib.Core.Path.{◌≡◌, refl, sym, ap, ◌∙◌}
use mathlib.Core.Bool.{true}
use mathlib.Core.List.{List, [], ◌∷◌, ◌++◌, append_assoc, append-nil}
use Prim.Native.Nat.{ℕ, zero, suc, ◌+◌, ◌*◌, ◌/◌, ◌%◌, ◌≤◌, ◌<◌}
use native.Mathlib.Nat.{zero-add, add-zero, add-suc}
use native.Mathlib.Omega.{arith}
use borrow.Author.Tests.{eqb-true}
use lib.Dec.{eqb}
use lib.ListN.{length, get_or, take, drop, length-append, drop_of_length-le, take-append-drop, get_or-append}
use lib.Seq.{get_or-append-add, drop_at, length-take-le}
use lib.Ieee.{Float, nan, binary32, of_bits, to_bits}
use Rattle.spec_tables.specs.Tables.{overwrite, concat_map}
use Rattle.spec_tables.proofs.Tables.{length_concat_map, concat_map_same}
use Rattle.spec_tables.proofs.Pieces.{piece_within, get_d_concat_map, length_singles}
use Rattle.spec_tables.proofs.Runs.{Run, run_start, run_front, run_end}
use Rattle.spec_records.specs.Little.{little, little_at}
use Rattle.spec_records.specs.Entries.{number_bytes, float_bytes}
use Rattle.spec_records.proofs.Little.{length_little}
use Rattle.spec_records.proofs.Entries.{length_numbers}
use Rattle.spec_shapes.specs.Points.{Point}
use Rattle.spec_lists.specs.Reading.{point_at, point_count}
use Rattle.spec_lists.specs.Refusals.{Verdict, passes, refused, refuses, after_verdict}
use Rattle.spec_lists.specs.Passed.{GoodPoints}
use Rattle.spec_lists.proofs.Verdicts.{all_pass, so, refusal_leaves}
use Rattle.spec_lists.proofs.Passed.{coordinates_passed}
use Rattle.spec_search.specs.Answers.{Answer, answer_width, words_of}
use Rattle.spec_search.specs.Calls.{point_words, few_words, after_few}
use Rattle.spec_search.proofs.Calls.{answer_wide, point_wide, few_words_same}
use Rattle.spec_host.specs.PointBytes.{numbers_of, bytes_of, point_bytes_refusal, word_bytes, answer_size, answer_bytes, after_bytes}

-- ---- what is read
module _ (s : List ℕ) where
  -- four bytes are a number, and a rest of fewer is none
  pub numbers_long : length (numbers_of s) ≡ length s / 4
  numbers_long = length_singles _ (length s / 4)

  -- twelve bytes are a point, and a rest of fewer is none
  pub points_count : point_count (numbers_of s) ≡ length s / 12
  unfolding point_count
  points_count = rw numbers_long (omega arith)

  -- number i of the bytes is read at byte 4 i
  pub number_is : (i : ℕ) → i < length s / 4 → get_or (numbers_of s) i nan ≡ of_bits binary32 (little_at 4 s (4 * i))
  number_is i h = get_d_concat_map nan _ (length s / 4) i h ∙ ap (λ (at : ℕ). of_bits binary32 (little_at 4 s at)) (zero-add (4 * i))

  -- point bytes that passed their test hold good points, as the list calls need them
  pub point_bytes_passed : point_bytes_refusal s ≡ passes → GoodPoints (numbers_of s)
  unfolding point_bytes_refusal point_count
  point_bytes_passed e =
      let p = all_pass _ e in
      let ragged = eqb-true (length s % 12) 0 (so (eqb (length s % 12) 0) 8 (length s) p.0) in
      record { whole = rw numbers_long (omega arith); coordinates = coordinates_passed 8 (numbers_of s) p.1.0 }

-- ---- numbers as bytes, list by list
concat_map_add : {A : Type 0} (f : ℕ → List A) (m n : ℕ) → concat_map f (m + n) ≡ concat_map f m ++ concat_map (λ i. f (m + i)) n
unfolding concat_map
concat_map_add f m zero = rw (add-zero, append-nil)
concat_map_add f m (suc n) = rw (add-suc, concat_map_add f m n) (append_assoc (concat_map f m) (concat_map (λ i. f (m + i)) n) (f (m + n)))

-- entries of a list as bytes, `w` each
module _ {A : Type 0} (entry : A → List ℕ) (d : A) where
  abbrev entries : List A → List ℕ
  entries xs = concat_map (λ i. entry (get_or xs (0 + i) d)) (length xs)

  entries_append : (a b : List A) → entries (a ++ b) ≡ entries a ++ entries b
  entries_append a b =
      let g : ℕ → List ℕ = λ i. entry (get_or (a ++ b) (0 + i) d) in
      ap (concat_map g) (length-append a b) ∙ concat_map_add g (length a) (length b)
      ∙ ap (λ (l : List ℕ). l ++ concat_map (λ i. g (length a + i)) (length b))
      (concat_map_same g (λ i. entry (get_or a (0 + i) d)) (length a) (λ i h. simp zero-add (ap entry (get_or-append a b d i h))))
      ∙ ap (λ (l : List ℕ). entries a ++ l)
      (concat_map_same (λ i. g (length a + i)) (λ i. entry (get_or b (0 + i) d)) (length b) (λ i h. simp zero-add (ap entry (get_or-append-add a b i d))))

  module _ (w : ℕ) (wide : (a : A) → length (entry a) ≡ w) where
    entries_long : (xs : List A) → length (entries xs) ≡ w * length xs
    entries_long xs = length_concat_map _ w (length xs) (λ i. wide (get_or xs (0 + i) d))

    entries_drop : (xs : List A) (n : ℕ) → n ≤ length xs → drop (w * n) (entries xs) ≡ entries (drop n xs)
    entries_drop xs n h =
        ap (λ (l : List A). drop (w * n) (entries l)) (sym (take-append-drop n xs))
        ∙ ap (drop (w * n)) (entries_append (take n xs) (drop n xs))
        ∙ drop_at (entries (take n xs)) (entries (drop n xs)) (w * n) (entries_long (take n xs) ∙ ap (λ (k : ℕ). w * k) (length-take-le n xs h))

    entries_overwrite : (new old : List A) → length new ≤ length old → entries (overwrite 0 new old) ≡ overwrite 0 (entries new) (entries old)
    unfolding overwrite
    entries_overwrite new old h =
        entries_append new (drop (0 + length new) old)
        ∙ ap (λ (l : List ℕ). entries new ++ l) (ap (λ (k : ℕ). entries (drop k old)) (zero-add (length new))
        ∙ sym (entries_drop old (length new) h) ∙ ap (λ (k : ℕ). drop k (entries old)) (sym (zero-add (length (entries new)) ∙ entries_long new)))

word_append : (a b : List ℕ) → word_bytes (a ++ b) ≡ word_bytes a ++ word_bytes b
word_append a b = entries_append (little 4) 0 a b

word_concat_map : (f : ℕ → List ℕ) (n : ℕ) → word_bytes (concat_map f n) ≡ concat_map (λ k. word_bytes (f k)) n
unfolding concat_map
word_concat_map f zero = refl
word_concat_map f (suc n) = word_append (concat_map f n) (f n) ∙ ap (λ (l : List ℕ). l ++ word_bytes (f n)) (word_concat_map f n)

-- ---- the bytes of the answers to a point
-- every answer takes as many bytes: the j-th to a point stands at j times their size
pub answer_long : (a : Answer) → length (word_bytes (words_of binary32 a)) ≡ answer_size
answer_long a = length_numbers 4 (words_of binary32 a) 0 (length (words_of binary32 a)) ∙ ap (λ (n : ℕ). 4 * n) (answer_wide binary32 a)

point_long : (most : ℕ) (answer : ℕ → Answer) → length (word_bytes (point_words binary32 most answer)) ≡ answer_size * most
point_long most answer =
    let words = point_words binary32 most answer in
    omega (arith, length_numbers 4 words 0 (length words), point_wide binary32 most answer)

-- the answers to a point, written one by one, are the bytes of their words
pub point_bytes : (most : ℕ) (answer : ℕ → Answer)
    → concat_map (λ j. word_bytes (words_of binary32 (answer j))) most ≡ word_bytes (point_words binary32 most answer)
unfolding point_words
point_bytes most answer = sym (word_concat_map (λ j. words_of binary32 (answer j)) most)

overwrite_all : {A : Type 0} (new old : List A) → length old ≡ length new → overwrite 0 new old ≡ new
unfolding overwrite
overwrite_all new old e = let h : length old ≤ length new = omega arith in rw (zero-add, drop_of_length-le old h, append-nil)

-- an answer's words, stored in the program's list for one answer, are the answer's bytes
pub words_bytes : (a : Answer) (old : List ℕ) → length old ≡ answer_width
    → number_bytes 4 (overwrite 0 (words_of binary32 a) old) 0 answer_width ≡ word_bytes (words_of binary32 a)
words_bytes a old e =
    ap (λ (l : List ℕ). number_bytes 4 l 0 answer_width) (overwrite_all (words_of binary32 a) old (e ∙ sym (answer_wide binary32 a)))
    ∙ ap (number_bytes 4 (words_of binary32 a) 0) (sym (answer_wide binary32 a))

-- answers that are the same place by place have the same bytes
pub answer_bytes_same : (most : ℕ) (answer other : Point → ℕ → Answer) (points : List ℕ) → ((p : Point) (j : ℕ) → j < most → answer p j ≡ other p j)
    → answer_bytes most answer points ≡ answer_bytes most other points
unfolding answer_bytes
answer_bytes_same most answer other points e = ap word_bytes (few_words_same binary32 most answer other (numbers_of points) e)

-- ---- the loop over the points that writes so many answers a point
module _ (most : ℕ) (answer : Point → ℕ → Answer) (points old : List ℕ) where
  abbrev piece : ℕ → List ℕ
  piece k = word_bytes (point_words binary32 most (answer (point_at (numbers_of points) (3 * k))))

  -- the answers to k of n points stand at the front of out
  abbrev pub Answered : (n : ℕ) (out : List ℕ) (k : ℕ) → Type 0
  Answered n out k = Run piece 0 n old out k

  -- before the first turn no answer is written
  pub answered_start : (n : ℕ) → Answered n old 0
  answered_start n = run_start piece (answer_size * most) 0 n old

  -- a turn of the loop writes the next point's answers behind the others
  pub answered_more : (n : ℕ) (out new : List ℕ) (k : ℕ) (words : List ℕ) → (answer_size * most) * n ≤ length old → k < n → Answered n out k
      → words ≡ point_words binary32 most (answer (point_at (numbers_of points) (3 * k)))
      → new ≡ overwrite ((answer_size * most) * k) (word_bytes words) out → Answered n new (k + 1)
  answered_more n out new k words room l r e h =
      run_front piece (answer_size * most) n old out new k (λ j. point_long most (answer (point_at (numbers_of points) (3 * j)))) room l r
      (h ∙ ap (λ (w : List ℕ). overwrite ((answer_size * most) * k) (word_bytes w) out) e)

  -- the next point's answers have room
  pub answers_room : (n : ℕ) (out : List ℕ) (k : ℕ) → (answer_size * most) * n ≤ length old → k < n → Answered n out k
      → (answer_size * most) * k + answer_size * most ≤ length out
  answers_room n out k room l r = omega (arith, piece_within (answer_size * most) n k l, r.long)

  -- after the last turn the answers at all points stand at the front
  pub answered_end : (n : ℕ) (out : List ℕ) (k : ℕ) → n ≡ length points / 12 → n ≤ k → Answered n out k
      → out ≡ overwrite 0 (answer_bytes most answer points) old
  unfolding answer_bytes few_words
  answered_end n out k e l r =
      run_end piece 0 n old out k l r
      ∙ ap (λ (m : ℕ). overwrite 0 (concat_map piece m) old) (e ∙ sym (points_count points))
      ∙ ap (λ (new : List ℕ). overwrite 0 new old)
      (sym (word_concat_map (λ j. point_words binary32 most (answer (point_at (numbers_of points) (3 * j)))) (point_count (numbers_of points))))

-- ---- the loop over the points that writes a number a point: winding numbers, exact ones and those by dipoles
module _ (number : ℕ → Float) (points old : List ℕ) where
  abbrev bytes : ℕ → List ℕ
  bytes k = little 4 (to_bits binary32 (number k))

  -- k of n numbers stand at the front of out
  abbrev pub NumbersPut : (n : ℕ) (out : List ℕ) (k : ℕ) → Type 0
  NumbersPut n out k = Run bytes 0 n old out k

  -- before the first turn no number is written
  pub numbers_start : (n : ℕ) → NumbersPut n old 0
  numbers_start n = run_start bytes 4 0 n old

  -- a turn of the loop writes the next point's number behind the others
  pub numbers_more : (n : ℕ) (out new : List ℕ) (k bits : ℕ) → 4 * n ≤ length old → k < n → NumbersPut n out k
      → bits ≡ to_bits binary32 (number k) → new ≡ overwrite (4 * k) (little 4 bits) out → NumbersPut n new (k + 1)
  numbers_more n out new k bits room l r e h =
      run_front bytes 4 n old out new k (λ j. length_little 4 _) room l r (h ∙ ap (λ (b : ℕ). overwrite (4 * k) (little 4 b) out) e)

  -- after the last turn the numbers of all points stand at the front
  pub numbers_end : (n : ℕ) (out : List ℕ) (k : ℕ) → n ≡ length points / 12 → n ≤ k → NumbersPut n out k
      → out ≡ overwrite 0 (bytes_of (concat_map (λ j. number j ∷ []) (point_count (numbers_of points)))) old
  numbers_end n out k e l r =
      let count = point_count (numbers_of points) in
      run_end bytes 0 n old out k l r
      ∙ ap (λ (m : ℕ). overwrite 0 (concat_map bytes m) old) (e ∙ sym (points_count points))
      ∙ ap (λ (new : List ℕ). overwrite 0 new old)
      (concat_map_same bytes _ count
      (λ i h. ap (λ (x : Float). little 4 (to_bits binary32 x)) (sym (get_d_concat_map nan number count (0 + i) (rw zero-add h) ∙ ap number (zero-add i))))
      ∙ ap (float_bytes binary32 (concat_map (λ j. number j ∷ []) count) 0) (sym (length_singles number count)))

-- ---- the lent bytes afterwards
-- a call that refuses keeps its contract by leaving the lent bytes as they were
pub as_it_was : (v : Verdict) (new old : List ℕ) → refuses v ≡ true → old ≡ after_bytes v new old
unfolding after_bytes
as_it_was v new old h = refusal_leaves v (overwrite 0 new old) old h

-- a call that passed keeps its contract by writing at the front
pub as_written : (v : Verdict) (new old out : List ℕ) → v ≡ passes → out ≡ overwrite 0 new old → out ≡ after_bytes v new old
unfolding after_bytes
as_written v new old out e h = rw e h

-- ---- bytes that hold numbers, as the list calls write them
-- four bytes a word
pub words_long : (words : List ℕ) → length (word_bytes words) ≡ 4 * length words
words_long = entries_long (little 4) 0 4 (length_little 4)

-- four bytes a number
pub bytes_long : (xs : List Float) → length (bytes_of xs) ≡ 4 * length xs
bytes_long = entries_long (λ x. little 4 (to_bits binary32 x)) nan 4 (λ x. length_little 4 (to_bits binary32 x))

-- in bytes that hold words, answers are left as the words that the list query leaves
pub answers_after : (most : ℕ) (answer : Point → ℕ → Answer) (points old : List ℕ) (v : Verdict)
    → (v ≡ passes → (answer_width * most) * (length points / 12) ≤ length old)
    → after_bytes v (answer_bytes most answer points) (word_bytes old) ≡ word_bytes (after_few binary32 most answer (numbers_of points) v old)
unfolding after_bytes after_few answer_bytes few_words
answers_after most answer points old passes room =
    let words : List ℕ = few_words binary32 most answer (numbers_of points) in
    let long : length words ≡ (answer_width * most) * (length points / 12) =
    length_concat_map _ (answer_width * most) (point_count (numbers_of points)) (λ k. point_wide binary32 most _)
    ∙ ap (λ (n : ℕ). (answer_width * most) * n) (points_count points) in
    sym (entries_overwrite (little 4) 0 4 (length_little 4) words old (rw long (room refl)))
answers_after most answer points old (refused number place) room = refl

-- in bytes that hold numbers, a number a point is left as the numbers that a list call leaves
pub numbers_after : (number : ℕ → Float) (points : List ℕ) (old : List Float) (v : Verdict) → (v ≡ passes → length points / 12 ≤ length old)
    → after_bytes v (bytes_of (concat_map (λ k. number k ∷ []) (point_count (numbers_of points)))) (bytes_of old)
    ≡ bytes_of (after_verdict v (overwrite 0 (concat_map (λ k. number k ∷ []) (point_count (numbers_of points))) old) old)
unfolding after_bytes
numbers_after number points old passes room =
    let new : List Float = concat_map (λ k. number k ∷ []) (point_count (numbers_of points)) in
    let long : length new ≡ point_count (numbers_of points) = length_singles number (point_count (numbers_of points)) in
    sym (entries_overwrite (λ x. little 4 (to_bits binary32 x)) nan 4 (λ x. length_little 4 (to_bits binary32 x)) new old
    (omega (arith, room refl, points_count points)))
numbers_after number points old (refused number₂ place) room = refl
