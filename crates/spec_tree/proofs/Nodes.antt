-- A node as it stands in the lists and as it is read, and the test of boxes, which says yes exactly where they are equal.
use mathlib.Core.Path.{◌≡◌, refl, ap, ◌∙◌}
use mathlib.Core.Bool.{true, ◌&&◌}
use mathlib.Core.List.{List, [], ◌∷◌}
use Prim.Native.Nat.{ℕ, ◌+◌, ◌*◌, ◌≤◌}
use native.Mathlib.Omega.{arith}
use native.Mathlib.Numerals.{add-one, add-two}
use lib.ListN.{length, get_or}
use lib.Ieee.{Float, nan}
use Rattle.spec_numbers.specs.Same.{same}
use Rattle.spec_numbers.proofs.Tests.{both_passed, both_pass}
use Rattle.spec_numbers.proofs.Same.{same_equal, equal_same}
use Rattle.spec_shapes.specs.Points.{Point}
use Rattle.spec_shapes.specs.Boxes.{Box}
use Rattle.spec_tree.specs.Trees.{six_of, kind_at, left_at, right_at, node_box}
use Rattle.spec_tree.specs.Accepted.{same_point, same_box}
use Rattle.spec_tree.proofs.Standing.{Stands}

-- ---- the test of boxes
same_point_lem : (a b : Point) → same_point a b ≡ true → a ≡ b
same_point_lem a b h =
    let outer = both_passed (same a.x b.x && same a.y b.y) (same a.z b.z) h in
    let inner = both_passed (same a.x b.x) (same a.y b.y) outer.0 in
    let x : a.x ≡ b.x = same_equal a.x b.x inner.0 in
    let y : a.y ≡ b.y = same_equal a.y b.y inner.1 in
    let z : a.z ≡ b.z = same_equal a.z b.z outer.1 in
    λ i. record { x = x i; y = y i; z = z i }

-- boxes that pass the test are equal, so the check knows the box that a node has
pub same_box_lem : (a b : Box) → same_box a b ≡ true → a ≡ b
unfolding same_box
same_box_lem a b h =
    let both = both_passed (same_point a.min b.min) (same_point a.max b.max) h in
    let low = same_point_lem a.min b.min both.0 in
    let high = same_point_lem a.max b.max both.1 in
    λ i. record { min = low i; max = high i }

point_same : (a b : Point) → a ≡ b → same_point a b ≡ true
point_same a b p = simp (equal_same _ _ (λ i. (p i).x), equal_same _ _ (λ i. (p i).y), equal_same _ _ (λ i. (p i).z))

-- equal boxes pass the test, so the check accepts a box that the build wrote
pub box_same : (a b : Box) → a ≡ b → same_box a b ≡ true
unfolding same_box
box_same a b p = both_pass _ _ (point_same a.min b.min (λ i. (p i).min)) (point_same a.max b.max (λ i. (p i).max))

-- ---- a node that stands in the lists
-- three links that are read at a node stand in the list there: what the check reads becomes a listing
pub links_stand : (links : List ℕ) (node kind left right : ℕ) → 3 * node + 3 ≤ length links
    → kind_at links node ≡ kind → left_at links node ≡ left → right_at links node ≡ right → Stands 0 links (3 * node) (kind ∷ left ∷ right ∷ [])
links_stand links node kind left right w k l r =
    (omega arith, k, (omega arith, rw (← add-one (3 * node)) l, (omega arith, rw (← add-two (3 * node)) r, tt)))

-- a box that is read at a node stands in the list there, with its six numbers
pub box_stands : (boxes : List Float) (node : ℕ) (b : Box) → 6 * node + 6 ≤ length boxes → b ≡ node_box boxes node → Stands nan boxes (6 * node) (six_of b)
box_stands boxes node b w p =
    rw p (
      omega arith,
      refl,
      (
        omega arith,
        place _ _ (omega arith),
        (
          omega arith,
          place _ _ (omega arith),
          (omega arith, place _ _ (omega arith), (omega arith, place _ _ (omega arith), (omega arith, place _ _ (omega arith), tt))),
        ),
      ),
    )
  where
    place : (k m : ℕ) → k ≡ m → get_or boxes k nan ≡ get_or boxes m nan
    place k m q = ap (λ (j : ℕ). get_or boxes j nan) q

-- ---- a node that is read
-- the three numbers of a node
pub record NodeLinks (links : List ℕ) (node kind left right : ℕ) : Type 0 where
  pub kind_is : kind_at links node ≡ kind
  pub left_is : left_at links node ≡ left
  pub right_is : right_at links node ≡ right

-- what stands at m is read at k
read : {A : Type 0} (d : A) (l : List A) (k m : ℕ) (v : A) → get_or l m d ≡ v → k ≡ m → get_or l k d ≡ v
read d l k m v p q = ap (λ (j : ℕ). get_or l j d) q ∙ p

-- three links that stand in the list are read at their node: what a listing says becomes what a walk reads
pub links_read : (links : List ℕ) (node kind left right : ℕ) → Stands 0 links (3 * node) (kind ∷ left ∷ right ∷ []) → NodeLinks links node kind left right
links_read links node kind left right s =
    record { kind_is = s.1; left_is = read 0 links _ _ _ s.2.1 (omega arith); right_is = read 0 links _ _ _ s.2.2.1 (omega arith) }

-- a box that stands in the list is read at its node
pub box_read : (boxes : List Float) (node : ℕ) (b : Box) → Stands nan boxes (6 * node) (six_of b) → node_box boxes node ≡ b
box_read boxes node b s =
    let low_y : (node_box boxes node).min.y ≡ b.min.y = read nan boxes _ _ _ s.2.1 (omega arith) in
    let low_z : (node_box boxes node).min.z ≡ b.min.z = read nan boxes _ _ _ s.2.2.1 (omega arith) in
    let high_x : (node_box boxes node).max.x ≡ b.max.x = read nan boxes _ _ _ s.2.2.2.1 (omega arith) in
    let high_y : (node_box boxes node).max.y ≡ b.max.y = read nan boxes _ _ _ s.2.2.2.2.1 (omega arith) in
    let high_z : (node_box boxes node).max.z ≡ b.max.z = read nan boxes _ _ _ s.2.2.2.2.2.1 (omega arith) in
    λ i. record { min = record { x = s.1 i; y = low_y i; z = low_z i }; max = record { x = high_x i; y = high_y i; z = high_z i } }
