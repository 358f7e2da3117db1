-- The calls of a C host over the lists that it keeps, at point bytes: what they refuse, and the contract of each. A room is in bytes, 4 a winding
-- number.
use Rattle.std.specs.Prelude.{ℕ, ◌/◌, ◌≡◌, List, [], ◌∷◌, length, Float}
use Rattle.std.specs.Float.{binary32}
use Rattle.spec_lists.specs.Refusals.{Verdict, first_refusal, triangles_refusal, room_refusal, distance_refusal, scale_refusal}
use Rattle.spec_tree.specs.Refusals.{tree_refusal}
use Rattle.spec_dipoles.specs.Calls.{sums_refusal, after_sums}
use Rattle.spec_search.specs.Answers.{Query}
use Rattle.spec_search.specs.Calls.{choice_refusal, most_by, answer_by}
use Rattle.spec_host.specs.Status.{status}
use Rattle.spec_host.specs.PointBytes.{point_bytes_refusal, answer_size, answer_bytes, winding_bytes, fast_bytes, after_bytes}

-- 1 to 6, 71 to 75, 8, 9; 5 is of the sure query's rule and of how many answers are asked for, and 6 of room for so many a point
unfoldable pub query_bytes_refusal : Query → (triangles : List Float) (order links : List ℕ) (boxes : List Float) (nodes : ℕ) (points : List ℕ)
    (distance : Float) (room : ℕ) → Verdict
query_bytes_refusal query triangles order links boxes nodes points distance room =
    first_refusal
    (triangles_refusal triangles
    ∷ choice_refusal query ∷ room_refusal (room / answer_size / most_by query) (length points / 12)
    ∷ tree_refusal triangles order links boxes nodes
    ∷ point_bytes_refusal points ∷ distance_refusal distance ∷ [])

-- 1 to 4, 6, 8
unfoldable pub winding_bytes_refusal : (triangles : List Float) (points : List ℕ) (room : ℕ) → Verdict
winding_bytes_refusal triangles points room =
    first_refusal
    (triangles_refusal triangles ∷ room_refusal (room / 4) (length points / 12) ∷ point_bytes_refusal points ∷ [])

-- 1 to 4, 6, 71 to 75, 8, 14
unfoldable pub fast_bytes_refusal : (triangles : List Float) (order links : List ℕ) (boxes : List Float) (nodes : ℕ) (sums : List Float) (points : List ℕ)
    (accuracy : Float) (room : ℕ) → Verdict
fast_bytes_refusal triangles order links boxes nodes sums points accuracy room =
    first_refusal
    (triangles_refusal triangles
    ∷ room_refusal (room / 4) (length points / 12)
    ∷ room_refusal (length sums / 16) nodes
    ∷ tree_refusal triangles order links boxes nodes
    ∷ point_bytes_refusal points ∷ scale_refusal accuracy ∷ [])

-- ---- the contracts: the status counts points, and the lent bytes hold what is written for each from the front, on a refusal what they held
-- a query answers r and leaves `new`: an answer a point, or so many of them
pub record QueryIs (query : Query) (triangles : List Float) (order links : List ℕ) (boxes : List Float) (nodes : ℕ) (points : List ℕ) (distance : Float)
    (old : List ℕ) (r : ℕ) (new : List ℕ) : Type 0 where
  pub status_is : r ≡ status (query_bytes_refusal query triangles order links boxes nodes points distance (length old)) (length points / 12)
  pub answers_are : new ≡ after_bytes (query_bytes_refusal query triangles order links boxes nodes points distance (length old))
      (answer_bytes (most_by query) (answer_by binary32 query triangles order links boxes nodes distance) points) old

-- the winding call answers r and leaves `new`
pub record WindingIs (triangles : List Float) (points old : List ℕ) (r : ℕ) (new : List ℕ) : Type 0 where
  pub status_is : r ≡ status (winding_bytes_refusal triangles points (length old)) (length points / 12)
  pub windings_are : new ≡ after_bytes (winding_bytes_refusal triangles points (length old)) (winding_bytes triangles points) old

-- the call that makes the dipoles answers r and leaves `new`, as the list call leaves it; the status counts nodes
pub record SumsIs (triangles : List Float) (order links : List ℕ) (boxes : List Float) (nodes : ℕ) (old : List Float) (r : ℕ) (new : List Float) : Type 0 where
  pub status_is : r ≡ status (sums_refusal triangles order links boxes nodes (length old)) nodes
  pub sums_are : new ≡ after_sums binary32 triangles order links boxes nodes old

-- the call of winding numbers by dipoles answers r and leaves `new`
pub record FastIs (triangles : List Float) (order links : List ℕ) (boxes : List Float) (nodes : ℕ) (sums : List Float) (points : List ℕ) (accuracy : Float)
    (old : List ℕ) (r : ℕ) (new : List ℕ) : Type 0 where
  pub status_is : r ≡ status (fast_bytes_refusal triangles order links boxes nodes sums points accuracy (length old)) (length points / 12)
  pub windings_are : new ≡ after_bytes (fast_bytes_refusal triangles order links boxes nodes sums points accuracy (length old))
      (fast_bytes triangles order links nodes sums accuracy points) old
