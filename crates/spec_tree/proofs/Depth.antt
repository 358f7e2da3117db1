-- The depth that is read off the links of an accepted tree is the number of its levels, and reading it meets only nodes that are there.
use mathlib.Core.Path.{◌≡◌, ap, ◌∙◌}
use mathlib.Core.Bool.{Bool, true, false}
use mathlib.Core.List.{List}
use Prim.Native.Nat.{ℕ, zero, suc, ◌+◌, ◌-◌, ◌*◌, ◌≤◌, ◌<◌, max}
use native.Mathlib.Omega.{arith}
use borrow.Author.Tests.{ne_eqb}
use lib.Dec.{eqb}
use lib.ListN.{length}
use lib.Ieee.{Float}
use Rattle.spec_lists.specs.Limits.{deepest}
use Rattle.spec_lists.specs.Reading.{box_at, triangle_count}
use Rattle.spec_lists.specs.Refusals.{passes, refused}
use Rattle.spec_shapes.specs.Boxes.{Box}
use Rattle.spec_tree.specs.Trees.{Tree, leaf, branch, levels, kind_at, left_at, right_at}
use Rattle.spec_tree.specs.Accepted.{Listing}
use Rattle.spec_tree.specs.Hangs.{Hangs, ChildrenBefore, Sound}
use Rattle.spec_tree.specs.Depth.{depth_by, depth_at, depth_of, Descends, deep, not_deep, depth_answer}
use Rattle.spec_tree.specs.Refusals.{check_refusal}
use Rattle.spec_tree.proofs.Hangs.{listing_hangs, sound_branch}

module _ (over : ℕ → Box) (order links : List ℕ) (boxes : List Float) where
  hangs_depth : (t : Tree) (most node : ℕ) → levels t ≤ most → Hangs over order links boxes t node → depth_at links most node ≡ levels t
  unfolding depth_at levels
  hangs_depth (leaf slice) zero node w h = absurd (omega arith)
  hangs_depth (leaf slice) (suc most) node w h = rw h.kind_is
  hangs_depth (branch l r) zero node w h = absurd (omega arith)
  hangs_depth (branch l r) (suc most) node w h =
      let left : depth_at links most (left_at links node) ≡ levels l = hangs_depth l most (left_at links node) (omega arith) h.left in
      let right : depth_at links most (right_at links node) ≡ levels r = hangs_depth r most (right_at links node) (omega arith) h.right in
      rw h.kind_is (rw (left, right))

-- the depth that is read off the links of a listing is the number of levels of its tree
pub listing_depth : (over : ℕ → Box) (n : ℕ) (order links : List ℕ) (boxes : List Float) (nodes : ℕ) (t : Tree) → Listing over n order links boxes nodes t
    → depth_of links nodes ≡ levels t
listing_depth over n order links boxes nodes t s =
    hangs_depth over order links boxes t deepest (nodes - 1) s.shallow (listing_hangs over n order links boxes nodes t s)

-- ---- a look down from a node
module _ (links : List ℕ) where
  depth_by_most : (b : Bool) (most node : ℕ) (below : ℕ → ℕ) → ((k : ℕ) → below k ≤ most) → depth_by b links below node ≤ suc most
  depth_by_most true most node below h = omega (arith, h (left_at links node), h (right_at links node))
  depth_by_most false most node below h = omega arith

  -- the depth is at most the bound of the recursion, so one more for the parent does not overflow
  pub depth_most : (most node : ℕ) → depth_at links most node ≤ most
  unfolding depth_at
  depth_most zero node = omega arith
  depth_most (suc most) node = depth_by_most (eqb (kind_at links node) 2) most node (depth_at links most) (depth_most most)

  -- the recursion ends where no level remains
  pub depth_none : (most node : ℕ) → most ≡ 0 → depth_at links most node ≡ 0
  unfolding depth_at
  depth_none most node p = rw p

  module _ (most node : ℕ) (some : most ≡ 0 → ⊥) where
    opened : depth_at links most node ≡ depth_by (eqb (kind_at links node) 2) links (depth_at links (most - 1)) node
    unfolding depth_at
    opened = let p : most ≡ suc (most - 1) = omega arith in ap (λ (k : ℕ). depth_at links k node) p

    -- a node that is no branch is one level
    pub depth_leaf : (kind_at links node ≡ 2 → ⊥) → depth_at links most node ≡ 1
    depth_leaf p = opened ∙ rw (ne_eqb (kind_at links node) 2 p)

    -- a branch is one level more than the deeper of its children
    pub depth_branch : kind_at links node ≡ 2
        → depth_at links most node ≡ max (depth_at links (most - 1) (left_at links node)) (depth_at links (most - 1) (right_at links node)) + 1
    depth_branch p = opened ∙ rw p

  -- what the depth needs at a branch holds at its children
  module _ (node : ℕ) (d : Descends links node) (p : kind_at links node ≡ 2) where
    here : ChildrenBefore links node
    here = d.falls node (omega arith) p

    before : (k : ℕ) → k < node → Descends links k
    before k h = let there : 3 * node + 3 ≤ length links = d.there in record { there = omega arith; falls = λ j w. d.falls j (omega arith) }

    -- the left child has what the recursive call on it needs
    pub descends_left : Descends links (left_at links node)
    descends_left = before (left_at links node) here.left_before

    -- the right child has what the recursive call on it needs
    pub descends_right : Descends links (right_at links node)
    descends_right = before (right_at links node) here.right_before

-- sound lists have what the depth needs at every node, so an accepted tree has
pub sound_descends : (n : ℕ) (order links : List ℕ) (boxes : List Float) (nodes node : ℕ) → Sound n order links boxes nodes → node < nodes → Descends links node
sound_descends n order links boxes nodes node s h =
    let there : 3 * nodes ≤ length links = s.links_there in
    record {
      there = omega arith;
      falls = λ k w p. sound_branch order links k (s.node_is k (omega arith)) (λ (one : kind_at links k ≡ 1). omega (arith, p));
    }

-- ---- the call
module _ (triangles : List Float) (order links : List ℕ) (boxes : List Float) (nodes : ℕ) where
  -- a refusal of the check is the call's answer
  pub depth_refused : (number place : ℕ) → check_refusal triangles order links boxes nodes ≡ refused number place
      → not_deep number place ≡ depth_answer triangles order links boxes nodes
  unfolding depth_answer
  depth_refused number place p = rw p

  -- where the check passes, the depth that is read off the links is
  pub depth_read_lem : (d : ℕ) → check_refusal triangles order links boxes nodes ≡ passes → d ≡ depth_of links nodes
      → deep d ≡ depth_answer triangles order links boxes nodes
  unfolding depth_answer
  depth_read_lem d p q = rw p (ap deep q)

  -- and that is the number of levels of the tree whose listing the lists are
  pub depth_is_levels : (t : Tree) → check_refusal triangles order links boxes nodes ≡ passes
      → Listing (box_at triangles) (triangle_count triangles) order links boxes nodes t → depth_answer triangles order links boxes nodes ≡ deep (levels t)
  unfolding depth_answer
  depth_is_levels t p s = rw p (ap deep (listing_depth (box_at triangles) (triangle_count triangles) order links boxes nodes t s))
