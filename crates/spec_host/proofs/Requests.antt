-- What the tests of the calls give where they pass, and that each of their verdicts can be encoded: no place is too large for the bits that it has.
use mathlib.Core.Path.{◌≡◌}
use mathlib.Core.Bool.{true, not}
use mathlib.Core.List.{List, []}
use Prim.Native.Nat.{ℕ, ◌*◌, ◌/◌, ◌%◌, ◌^◌, ◌≤◌, ◌<◌}
use native.Mathlib.Omega.{arith}
use borrow.Author.Tests.{ltb-true}
use lib.Dec.{ltb, eqb}
use lib.ListN.{length}
use lib.Ieee.{Float}
use Rattle.spec_lists.specs.Refusals.{passes, refused_if, coordinate_refusal, first_bad}
use Rattle.spec_lists.specs.Passed.{GoodPoints, GoodDistance}
use Rattle.spec_lists.proofs.Verdicts.{all_pass}
use Rattle.spec_lists.proofs.Passed.{triangles_passed, room_passed, distance_passed}
use Rattle.spec_tree.specs.Refusals.{check_refusal}
use Rattle.spec_tree.proofs.Unchanged.{tree_passed}
use Rattle.spec_search.specs.Answers.{Query}
use Rattle.spec_search.specs.Calls.{most_few, most_by, Searchable}
use Rattle.spec_search.proofs.Calls.{choice_passed, room_for}
use Rattle.spec_dipoles.specs.Calls.{sums_refusal}
use Rattle.spec_dipoles.specs.Stored.{RootIn}
use Rattle.spec_dipoles.proofs.Readable.{accepted_root}
use Rattle.spec_host.specs.Status.{Placed, InPlace}
use Rattle.spec_host.specs.PointBytes.{numbers_of, point_bytes_refusal, answer_size}
use Rattle.spec_host.specs.Requests.{query_bytes_refusal, winding_bytes_refusal, fast_bytes_refusal}
use Rattle.spec_host.proofs.Status.{no_test, then_test, placed, triangles_encodable, choice_encodable, room_encodable, tree_encodable, distance_encodable, scale_encodable}
use Rattle.spec_host.proofs.PointBytes.{numbers_long, point_bytes_passed}

-- ---- the tests of point bytes
point_bytes_encodable : (s : List ℕ) → length s < 2 ^ 63 → InPlace (point_bytes_refusal s)
unfolding point_bytes_refusal coordinate_refusal
point_bytes_encodable s h =
    then_test (refused_if (not (eqb (length s % 12) 0)) 8 (length s)) _
    (placed (not (eqb (length s % 12) 0)) 8 (length s) (λ _. record { some = omega arith; most = omega arith; near = h }))
    (λ _. then_test (coordinate_refusal 8 (numbers_of s)) []
    (placed (ltb (first_bad (numbers_of s)) (length (numbers_of s))) 8 (first_bad (numbers_of s)) bad) (λ _. no_test))
  where
    bad : ltb (first_bad (numbers_of s)) (length (numbers_of s)) ≡ true → Placed 8 (first_bad (numbers_of s))
    bad e = record {
      some = omega arith;
      most = omega arith;
      near = omega (arith, numbers_long s, ltb-true (first_bad (numbers_of s)) (length (numbers_of s)) e);
    }

-- ---- the check and the queries
module _ (triangles : List Float) (order links : List ℕ) (boxes : List Float) (nodes : ℕ) where
  -- every verdict of the check can be encoded in the status
  pub check_encodable : InPlace (check_refusal triangles order links boxes nodes)
  unfolding check_refusal
  check_encodable =
      then_test _ _ (triangles_encodable triangles)
      (λ good. then_test _ _ (tree_encodable triangles order links boxes nodes good) (λ _. no_test))

  module _ (query : Query) (points : List ℕ) (distance : Float) (room : ℕ) where
    -- lists that pass the tests of a query have what the searches need, there is room for so many answers a point, and so many may be asked for
    pub query_passed : query_bytes_refusal query triangles order links boxes nodes points distance room ≡ passes
        → Searchable triangles order links boxes nodes × (GoodPoints (numbers_of points) × (((answer_size * most_by query) * (length points / 12) ≤ room)
        × (GoodDistance distance × ((1 ≤ most_by query) × (most_by query ≤ most_few)))))
    unfolding query_bytes_refusal
    query_passed e =
        let all = all_pass _ e in
        let enough = room_for room answer_size (most_by query) (length points / 12) (room_passed _ _ all.1.1.0) in
        let search : Searchable triangles order links boxes nodes =
        record { triangles_good = triangles_passed triangles all.0; tree_accepted = tree_passed triangles order links boxes nodes all.1.1.1.0 } in
        let near = distance_passed distance all.1.1.1.1.1.0 in
        (search, (point_bytes_passed points all.1.1.1.1.0, (enough, (near, choice_passed query all.1.0))))

    -- every verdict of a query can be encoded in the status
    pub query_encodable : length points < 2 ^ 63 → InPlace (query_bytes_refusal query triangles order links boxes nodes points distance room)
    unfolding query_bytes_refusal
    query_encodable fits =
        then_test _ _ (triangles_encodable triangles)
        (λ good. then_test _ _ (choice_encodable query)
        (λ _. then_test _ _ (room_encodable (room / answer_size / most_by query) (length points / 12))
        (λ _. then_test _ _ (tree_encodable triangles order links boxes nodes good)
        (λ _. then_test _ _ (point_bytes_encodable points fits)
        (λ _. then_test _ _ (distance_encodable distance) (λ _. no_test))))))

-- ---- the winding numbers
module _ (triangles : List Float) (points : List ℕ) (room : ℕ) where
  -- what passes the tests of the winding call has room for a number a point
  pub winding_passed : winding_bytes_refusal triangles points room ≡ passes → 4 * (length points / 12) ≤ room
  unfolding winding_bytes_refusal
  winding_passed e =
      let enough : length points / 12 ≤ room / 4 = room_passed _ _ (all_pass _ e).1.0 in
      omega arith

  -- every verdict of the winding call can be encoded in the status
  pub winding_encodable : length points < 2 ^ 63 → InPlace (winding_bytes_refusal triangles points room)
  unfolding winding_bytes_refusal
  winding_encodable fits =
      then_test _ _ (triangles_encodable triangles)
      (λ _. then_test _ _ (room_encodable (room / 4) (length points / 12))
      (λ _. then_test _ _ (point_bytes_encodable points fits) (λ _. no_test)))

-- ---- the dipoles, and the winding numbers by them
module _ (triangles : List Float) (order links : List ℕ) (boxes : List Float) (nodes : ℕ) where
  -- every verdict of the call that makes the dipoles can be encoded in the status
  pub sums_encodable : (room : ℕ) → InPlace (sums_refusal triangles order links boxes nodes room)
  unfolding sums_refusal
  sums_encodable room =
      then_test _ _ (triangles_encodable triangles)
      (λ good. then_test _ _ (room_encodable (room / 16) nodes)
      (λ _. then_test _ _ (tree_encodable triangles order links boxes nodes good) (λ _. no_test)))

  module _ (sums : List Float) (points : List ℕ) (accuracy : Float) (room : ℕ) where
    -- lists that pass the tests of the call by dipoles have what the walk needs, and there is room for a number a point
    pub fast_passed : fast_bytes_refusal triangles order links boxes nodes sums points accuracy room ≡ passes
        → RootIn triangles order links sums nodes × (4 * (length points / 12) ≤ room)
    unfolding fast_bytes_refusal
    fast_passed e =
        let all = all_pass _ e in
        let enough : length points / 12 ≤ room / 4 = room_passed _ _ all.1.0 in
        let numbers : nodes ≤ length sums / 16 = room_passed _ _ all.1.1.0 in
        let yes = tree_passed triangles order links boxes nodes all.1.1.1.0 in
        (accepted_root triangles order links boxes nodes yes sums numbers, omega arith)

    -- every verdict of the call by dipoles can be encoded in the status
    pub fast_encodable : length points < 2 ^ 63 → InPlace (fast_bytes_refusal triangles order links boxes nodes sums points accuracy room)
    unfolding fast_bytes_refusal
    fast_encodable fits =
        then_test _ _ (triangles_encodable triangles)
        (λ good. then_test _ _ (room_encodable (room / 4) (length points / 12))
        (λ _. then_test _ _ (room_encodable (length sums / 16) nodes)
        (λ _. then_test _ _ (tree_encodable triangles order links boxes nodes good)
        (λ _. then_test _ _ (point_bytes_encodable points fits)
        (λ _. then_test _ _ (scale_encodable accuracy) (λ _. no_test))))))
