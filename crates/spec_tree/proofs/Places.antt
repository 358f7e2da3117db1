-- The numbers and places of a tree that is refused: 71 to 75, and a place at most 2n.
use mathlib.Core.Path.{refl}
use mathlib.Core.Bool.{Bool, true, false, not, cond, ◌&&◌}
use mathlib.Core.List.{List, [], ◌∷◌}
use Prim.Native.Nat.{ℕ, zero, suc, ◌-◌, ◌*◌, ◌≤◌, ◌<◌}
use native.Mathlib.Omega.{arith}
use lib.Dec.{ltb, eqb}
use lib.Ieee.{Float}
use Rattle.spec_lists.specs.Refusals.{Verdict, passes, refused, first_refusal}
use Rattle.spec_lists.proofs.Verdicts.{test_has, row_ends, row_has}
use Rattle.spec_shapes.specs.Boxes.{Box}
use Rattle.spec_tree.specs.Trees.{kind_at, left_at, right_at}
use Rattle.spec_tree.specs.Accepted.{present}
use Rattle.spec_tree.specs.Reasons.{order_refusal, count_refusal, Scan, broken, stand, leaf_goes_on, scan_leaf, scan_kind, scan_node, scan, scan_ends, listing_refusal, is_shallow, depth_refusal, is_boxed, box_refusal, reason}
use Rattle.spec_tree.proofs.Failing.{Tells, where_has}
use Rattle.spec_tree.proofs.NewEntries.{order_placed}
use Rattle.spec_tree.proofs.Counted.{Counted, count_passed}

-- ---- 73: a node before which nothing broke
module _ (n : ℕ) (links : List ℕ) where
  -- where it broke, it broke at one of the first so many nodes
  abbrev BrokeBefore : ℕ → Scan → Type 0
  BrokeBefore i (broken k) = k < i
  BrokeBefore i (stand roots entry) = Unit {0}

  either : (i : ℕ) (c : Bool) (roots : List ℕ) (entry : ℕ) → BrokeBefore (suc i) (cond c (stand roots entry) (broken i))
  either i true roots entry = tt
  either i false roots entry = omega arith

  kind_broke : (i : ℕ) (is_leaf is_branch : Bool) (roots : List ℕ) (entry : ℕ) → BrokeBefore (suc i) (scan_kind n links is_leaf is_branch i roots entry)
  unfolding scan_leaf
  kind_broke i true is_branch roots entry = either i (leaf_goes_on n links i entry) (i ∷ roots) (right_at links i)
  kind_broke i false true [] entry = omega arith
  kind_broke i false true (r ∷ []) entry = omega arith
  kind_broke i false true (r ∷ l ∷ roots) entry = either i (eqb (left_at links i) l && eqb (right_at links i) r) (i ∷ roots) entry
  kind_broke i false false roots entry = omega arith

  node_broke : (i : ℕ) (sc : Scan) → BrokeBefore i sc → BrokeBefore (suc i) (scan_node n links i sc)
  node_broke i (broken k) h = omega arith
  node_broke i (stand roots entry) h = kind_broke i (eqb (kind_at links i) 1) (eqb (kind_at links i) 2) roots entry

  broke_before : (i : ℕ) → BrokeBefore i (scan n links i)
  unfolding scan
  broke_before zero = tt
  broke_before (suc i) = node_broke i (scan n links i) (broke_before i)

  ends_placed : (nodes : ℕ) → 0 < nodes → (sc : Scan) → BrokeBefore nodes sc → Tells 73 (nodes - 1) (scan_ends n (nodes - 1) sc)
  ends_placed nodes some (broken k) h = (refl, omega arith)
  ends_placed nodes some (stand [] entry) h = (refl, omega arith)
  ends_placed nodes some (stand (r ∷ []) entry) h =
      test_has (Tells 73 (nodes - 1)) tt (not (eqb entry n)) 73 (nodes - 1) (λ e. (refl, omega arith))
  ends_placed nodes some (stand (r ∷ l ∷ roots) entry) h = (refl, omega arith)

  listing_placed : (nodes : ℕ) → 0 < nodes → Tells 73 (nodes - 1) (listing_refusal n links nodes)
  unfolding listing_refusal
  listing_placed nodes some = ends_placed nodes some (scan n links nodes) (broke_before nodes)

-- ---- all five
-- one of the five numbers, and a place among the entries or the nodes of a tree over n triangles
pub record Placed (n number place : ℕ) : Type 0 where
  pub some : 71 ≤ number
  pub most : number ≤ 75
  pub near : place ≤ 2 * n

-- what a verdict about a tree tells
abbrev pub InTree : ℕ → Verdict → Type 0
InTree n passes = Unit {0}
InTree n (refused number place) = Placed n number place

in_tree : (n which most : ℕ) → 71 ≤ which → which ≤ 75 → most ≤ 2 * n → (v : Verdict) → Tells which most v → InTree n v
in_tree n which most low high near passes t = tt
in_tree n which most low high near (refused number place) t =
    record { some = omega (arith, t.0); most = omega (arith, t.0); near = omega (arith, t.1) }

module _ (box_at : ℕ → Box) (n : ℕ) (order links : List ℕ) (boxes : List Float) (nodes : ℕ) where
  count_placed : Tells 72 0 (count_refusal n links boxes nodes)
  unfolding count_refusal
  count_placed = test_has (Tells 72 0) tt (not (present links boxes nodes && ltb nodes (2 * n))) 72 0 (λ e. (refl, omega arith))

  depth_placed : Tells 74 (nodes - 1) (depth_refusal links nodes)
  unfolding depth_refusal
  depth_placed = where_has (is_shallow links nodes) nodes 74 (Tells 74 (nodes - 1)) tt (λ h. (refl, omega arith))

  box_placed : Tells 75 (nodes - 1) (box_refusal box_at order links boxes nodes)
  unfolding box_refusal
  box_placed = where_has (is_boxed box_at order links boxes) nodes 75 (Tells 75 (nodes - 1)) tt (λ h. (refl, omega arith))

  nodes_placed : Counted n links boxes nodes
      → InTree n (first_refusal (listing_refusal n links nodes ∷ depth_refusal links nodes ∷ box_refusal box_at order links boxes nodes ∷ []))
  nodes_placed c =
      row_has (InTree n) tt _ _ (among 73 (listing_refusal n links nodes) (omega arith) (omega arith) (listing_placed n links nodes c.some))
      (λ p. row_has (InTree n) tt _ _ (among 74 (depth_refusal links nodes) (omega arith) (omega arith) depth_placed)
      (λ q. row_has (InTree n) tt _ _ (among 75 (box_refusal box_at order links boxes nodes) (omega arith) (omega arith) box_placed)
      (λ r. row_ends (InTree n) tt)))
    where
      among : (which : ℕ) (v : Verdict) → 71 ≤ which → which ≤ 75 → Tells which (nodes - 1) v → InTree n v
      among which v low high = in_tree n which (nodes - 1) low high (omega (arith, c.few)) v

  -- whatever refuses a tree has one of the five numbers, and a place in its lists
  pub reason_placed : InTree n (reason box_at n order links boxes nodes)
  unfolding reason
  reason_placed =
      row_has (InTree n) tt _ _ (in_tree n 71 n (omega arith) (omega arith) (omega arith) (order_refusal n order) (order_placed n order))
      (λ p. row_has (InTree n) tt _ _ (in_tree n 72 0 (omega arith) (omega arith) (omega arith) (count_refusal n links boxes nodes) count_placed)
      (λ q. nodes_placed (count_passed n links boxes nodes q)))
