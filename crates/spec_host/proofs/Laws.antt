-- The status of a call over lists is decoded without loss, and on whole points a call refuses and answers as the list call does.
use mathlib.Core.Path.{◌≡◌, sym, ap, ◌∙◌}
use mathlib.Core.Bool.{true}
use mathlib.Core.List.{List}
use Prim.Native.Nat.{ℕ, ◌*◌, ◌/◌, ◌%◌, ◌^◌, ◌<◌}
use native.Mathlib.Omega.{arith}
use borrow.Author.Tests.{eq-eqb}
use lib.Dec.{eqb}
use lib.ListN.{length}
use lib.Ieee.{Float, binary32}
use Rattle.spec_tables.specs.Tables.{overwrite}
use Rattle.spec_lists.specs.Reading.{triangle_count, box_at, point_at}
use Rattle.spec_lists.specs.Refusals.{Verdict, passes, points_refusal, after_verdict}
use Rattle.spec_lists.proofs.Verdicts.{all_pass}
use Rattle.spec_lists.proofs.Passed.{triangles_passed}
use Rattle.spec_tree.specs.Refusals.{check_refusal}
use Rattle.spec_tree.proofs.Unchanged.{tree_passed}
use Rattle.spec_tree.proofs.Accepted.{accepted_listed, listing_most}
use Rattle.spec_search.specs.Answers.{Query, answer_width}
use Rattle.spec_search.specs.Calls.{most_by, query_refusal, after_few, answer_by}
use Rattle.spec_search.proofs.Calls as Calls
use Rattle.spec_angles.specs.Windings.{winding_refusal, winding_at, written, after_winding}
use Rattle.spec_dipoles.specs.Calls.{sums_refusal, fast_refusal, fast_windings, fast_about, after_fast}
use Rattle.spec_host.specs.Status.{status, Decoded}
use Rattle.spec_host.proofs.Status.{decoded}
use Rattle.spec_host.specs.PointBytes.{numbers_of, bytes_of, word_bytes, point_bytes_refusal, answer_size, windings, winding_bytes, fast_bytes}
use Rattle.spec_host.specs.Requests.{query_bytes_refusal, winding_bytes_refusal, fast_bytes_refusal, QueryIs, WindingIs, SumsIs, FastIs}
use Rattle.spec_host.proofs.PointBytes.{numbers_long, points_count, words_long, bytes_long, answers_after, numbers_after}
use Rattle.spec_host.proofs.Requests.{check_encodable, query_encodable, winding_passed, winding_encodable, sums_encodable, fast_passed, fast_encodable}

-- ---- the status is decoded
-- the status of the check is decoded without loss
pub check_decoded : (triangles : List Float) (order links : List ℕ) (boxes : List Float) (nodes : ℕ)
    → Decoded (check_refusal triangles order links boxes nodes) (triangle_count triangles)
    (status (check_refusal triangles order links boxes nodes) (triangle_count triangles))
unfolding check_refusal
check_decoded triangles order links boxes nodes =
    decoded (check_refusal triangles order links boxes nodes) (triangle_count triangles) (check_encodable triangles order links boxes nodes)
    (λ e. omega (arith, (triangles_passed triangles (all_pass _ e).0).few))

-- the status of the call that makes the dipoles is decoded without loss: a tree that passes has few nodes
pub sums_decoded : (triangles : List Float) (order links : List ℕ) (boxes : List Float) (nodes : ℕ) (room : ℕ)
    → Decoded (sums_refusal triangles order links boxes nodes room) nodes (status (sums_refusal triangles order links boxes nodes room) nodes)
unfolding sums_refusal
sums_decoded triangles order links boxes nodes room =
    decoded (sums_refusal triangles order links boxes nodes room) nodes (sums_encodable triangles order links boxes nodes room) few
  where
    few : sums_refusal triangles order links boxes nodes room ≡ passes → nodes < 2 ^ 56
    few e =
        let all = all_pass _ e in
        let n = triangle_count triangles in
        let listed = accepted_listed (box_at triangles) n order links boxes nodes (tree_passed triangles order links boxes nodes all.1.1.0) in
        omega (arith, (triangles_passed triangles all.0).few, listing_most (box_at triangles) n order links boxes nodes listed.0 listed.1)

module _ (triangles : List Float) (points : List ℕ) (fits : length points < 2 ^ 63) (few : length points / 12 < 2 ^ 56) (room : ℕ) where
  -- the status of a query is decoded without loss
  pub query_decoded : (query : Query) (order links : List ℕ) (boxes : List Float) (nodes : ℕ) (distance : Float)
      → Decoded (query_bytes_refusal query triangles order links boxes nodes points distance room) (length points / 12)
      (status (query_bytes_refusal query triangles order links boxes nodes points distance room) (length points / 12))
  query_decoded query order links boxes nodes distance =
      decoded (query_bytes_refusal query triangles order links boxes nodes points distance room) (length points / 12)
      (query_encodable triangles order links boxes nodes query points distance room fits) (λ _. few)

  -- the status of the winding call is decoded without loss
  pub winding_decoded : Decoded (winding_bytes_refusal triangles points room) (length points / 12)
      (status (winding_bytes_refusal triangles points room) (length points / 12))
  winding_decoded =
      decoded (winding_bytes_refusal triangles points room) (length points / 12) (winding_encodable triangles points room fits) (λ _. few)

  -- the status of the call by dipoles is decoded without loss
  pub fast_decoded : (order links : List ℕ) (boxes : List Float) (nodes : ℕ) (sums : List Float) (accuracy : Float)
      → Decoded (fast_bytes_refusal triangles order links boxes nodes sums points accuracy room) (length points / 12)
      (status (fast_bytes_refusal triangles order links boxes nodes sums points accuracy room) (length points / 12))
  fast_decoded order links boxes nodes sums accuracy =
      decoded (fast_bytes_refusal triangles order links boxes nodes sums points accuracy room) (length points / 12)
      (fast_encodable triangles order links boxes nodes sums points accuracy room fits) (λ _. few)

-- ---- on whole points a call refuses as the list call does
module _ (points : List ℕ) (whole : length points % 12 ≡ 0) where
  points_as_lists : point_bytes_refusal points ≡ points_refusal (numbers_of points)
  unfolding point_bytes_refusal points_refusal
  points_as_lists =
      let ragged : eqb (length points % 12) 0 ≡ true = eq-eqb (length points % 12) 0 whole in
      let ragged_too : eqb (length (numbers_of points) % 3) 0 ≡ true = eq-eqb (length (numbers_of points) % 3) 0 (rw (numbers_long points) (omega arith)) in
      rw (ragged, ragged_too)

  -- on whole points a query is refused as the list query is, whose room is in words
  pub queries_as_lists : (query : Query) (triangles : List Float) (order links : List ℕ) (boxes : List Float) (nodes : ℕ) (distance : Float) (room : ℕ)
      → query_bytes_refusal query triangles order links boxes nodes points distance room
      ≡ query_refusal query triangles order links boxes nodes (numbers_of points) distance (room / 4)
  unfolding query_bytes_refusal query_refusal
  queries_as_lists query triangles order links boxes nodes distance room =
      let rooms : room / 4 / answer_width ≡ room / answer_size = omega arith in
      rw (rooms, points_count points, points_as_lists)

  -- and in bytes that hold words it leaves the words that the list query leaves
  pub answers_as_lists : {query : Query} {triangles : List Float} {order links : List ℕ} {boxes : List Float} {nodes : ℕ} {distance : Float} {new : List ℕ}
      {r : ℕ} (old : List ℕ) → QueryIs query triangles order links boxes nodes points distance (word_bytes old) r new
      → new ≡ word_bytes (after_few binary32 (most_by query) (answer_by binary32 query triangles order links boxes nodes distance) (numbers_of points)
      (query_refusal query triangles order links boxes nodes (numbers_of points) distance (length old)) old)
  answers_as_lists {query} {triangles} {order} {links} {boxes} {nodes} {distance} old q =
      let answer = answer_by binary32 query triangles order links boxes nodes distance in
      let long : length (word_bytes old) / 4 ≡ length old = rw (words_long old) (omega arith) in
      let v = query_bytes_refusal query triangles order links boxes nodes points distance (length (word_bytes old)) in
      let same : v ≡ query_refusal query triangles order links boxes nodes (numbers_of points) distance (length old) =
      queries_as_lists query triangles order links boxes nodes distance (length (word_bytes old))
      ∙ ap (query_refusal query triangles order links boxes nodes (numbers_of points) distance) long in
      q.answers_are ∙ answers_after (most_by query) answer points old v
      (λ e. rw (points_count points) at (Calls.query_passed query triangles order links boxes nodes (numbers_of points) distance (length old)
      (sym same ∙ e)).1.0)
      ∙ ap (λ (w : Verdict). word_bytes (after_few binary32 (most_by query) answer (numbers_of points) w old)) same

  -- on whole points the winding call is refused as the list call is
  pub windings_as_lists : (triangles : List Float) (room : ℕ)
      → winding_bytes_refusal triangles points room ≡ winding_refusal triangles (numbers_of points) (room / 4)
  unfolding winding_bytes_refusal winding_refusal
  windings_as_lists triangles room = rw (points_count points, points_as_lists)

  -- and in bytes that hold numbers it leaves the numbers that the list call leaves
  pub turns_as_lists : {triangles : List Float} {new : List ℕ} {r : ℕ} (old : List Float) → WindingIs triangles points (bytes_of old) r new
      → new ≡ bytes_of (after_winding binary32 triangles (numbers_of points) old)
  unfolding winding_bytes windings written after_winding
  turns_as_lists {triangles} old q =
      let long : length (bytes_of old) / 4 ≡ length old = rw (bytes_long old) (omega arith) in
      let v = winding_bytes_refusal triangles points (length (bytes_of old)) in
      let same : v ≡ winding_refusal triangles (numbers_of points) (length old) =
      windings_as_lists triangles (length (bytes_of old)) ∙ ap (winding_refusal triangles (numbers_of points)) long in
      q.windings_are ∙ numbers_after (winding_at binary32 triangles (numbers_of points)) points old v
      (λ e. omega (arith, bytes_long old, winding_passed triangles points (length (bytes_of old)) e))
      ∙ ap (λ (w : Verdict). bytes_of (after_verdict w (written binary32 triangles (numbers_of points) old) old)) same

  -- on whole points the call by dipoles is refused as the list call is
  pub fast_as_lists : (triangles : List Float) (order links : List ℕ) (boxes : List Float) (nodes : ℕ) (sums : List Float) (accuracy : Float) (room : ℕ)
      → fast_bytes_refusal triangles order links boxes nodes sums points accuracy room
      ≡ fast_refusal triangles order links boxes nodes sums (numbers_of points) accuracy (room / 4)
  unfolding fast_bytes_refusal fast_refusal
  fast_as_lists triangles order links boxes nodes sums accuracy room = rw (points_count points, points_as_lists)

  -- and in bytes that hold numbers it leaves the numbers that the list call leaves
  pub fast_turns_as_lists : {triangles : List Float} {order links : List ℕ} {boxes : List Float} {nodes : ℕ} {sums : List Float} {accuracy : Float}
      {new : List ℕ} {r : ℕ} (old : List Float) → FastIs triangles order links boxes nodes sums points accuracy (bytes_of old) r new
      → new ≡ bytes_of (after_fast binary32 triangles order links boxes nodes sums accuracy (numbers_of points) old)
  unfolding fast_bytes fast_windings after_fast
  fast_turns_as_lists {triangles} {order} {links} {boxes} {nodes} {sums} {accuracy} old q =
      let long : length (bytes_of old) / 4 ≡ length old = rw (bytes_long old) (omega arith) in
      let v = fast_bytes_refusal triangles order links boxes nodes sums points accuracy (length (bytes_of old)) in
      let same : v ≡ fast_refusal triangles order links boxes nodes sums (numbers_of points) accuracy (length old) =
      fast_as_lists triangles order links boxes nodes sums accuracy (length (bytes_of old))
      ∙ ap (fast_refusal triangles order links boxes nodes sums (numbers_of points) accuracy) long in
      let number : ℕ → Float = λ k. fast_about binary32 triangles order links nodes sums accuracy (point_at (numbers_of points) (3 * k)) in
      q.windings_are ∙ numbers_after number points old v
      (λ e. omega (arith, bytes_long old, (fast_passed triangles order links boxes nodes sums points accuracy (length (bytes_of old)) e).1))
      ∙ ap (λ (w : Verdict). bytes_of (after_verdict w (overwrite 0 (fast_windings binary32 triangles order links nodes sums accuracy (numbers_of points)) old)
      old)) same

-- ---- the contracts leave nothing open
-- a query's status and bytes are fixed by what it is asked
pub query_is_unique : {query : Query} {triangles : List Float} {order links : List ℕ} {boxes : List Float} {nodes : ℕ} {points : List ℕ} {distance : Float}
    {old new new₂ : List ℕ} {r r₂ : ℕ} → QueryIs query triangles order links boxes nodes points distance old r new
    → QueryIs query triangles order links boxes nodes points distance old r₂ new₂ → (r ≡ r₂) × (new ≡ new₂)
query_is_unique p q = (p.status_is ∙ sym q.status_is, p.answers_are ∙ sym q.answers_are)

-- so are those of the winding call
pub winding_is_unique : {triangles : List Float} {points old new new₂ : List ℕ} {r r₂ : ℕ} → WindingIs triangles points old r new
    → WindingIs triangles points old r₂ new₂ → (r ≡ r₂) × (new ≡ new₂)
winding_is_unique p q = (p.status_is ∙ sym q.status_is, p.windings_are ∙ sym q.windings_are)

-- and those of the call that makes the dipoles
pub sums_is_unique : {triangles : List Float} {order links : List ℕ} {boxes : List Float} {nodes : ℕ} {old new new₂ : List Float} {r r₂ : ℕ}
    → SumsIs triangles order links boxes nodes old r new → SumsIs triangles order links boxes nodes old r₂ new₂ → (r ≡ r₂) × (new ≡ new₂)
sums_is_unique p q = (p.status_is ∙ sym q.status_is, p.sums_are ∙ sym q.sums_are)

-- and of the call by dipoles
pub fast_is_unique : {triangles : List Float} {order links : List ℕ} {boxes : List Float} {nodes : ℕ} {sums : List Float} {points : List ℕ} {accuracy : Float}
    {old new new₂ : List ℕ} {r r₂ : ℕ} → FastIs triangles order links boxes nodes sums points accuracy old r new
    → FastIs triangles order links boxes nodes sums points accuracy old r₂ new₂ → (r ≡ r₂) × (new ≡ new₂)
fast_is_unique p q = (p.status_is ∙ sym q.status_is, p.windings_are ∙ sym q.windings_are)
