-- The walk's equations, one for each way through a node and a pair; what a walk keeps true; and how many triangles it measures at most:
-- those of the tree that hangs at the node.
use mathlib.Core.Path.{◌≡◌, refl, ◌∙◌}
use mathlib.Core.Bool.{Bool, true, false}
use mathlib.Core.List.{List, [], ◌∷◌}
use Prim.Native.Nat.{ℕ, zero, suc, ◌+◌, ◌-◌, ◌≤◌}
use native.Mathlib.Nat.{le-max_left, le-max_right}
use native.Mathlib.Numerals.{sub-one}
use native.Mathlib.Omega.{arith}
use borrow.Author.Tests.{eq-eqb, ne_eqb}
use lib.ListN.{length, length-append}
use lib.Ieee.{Float}
use Rattle.spec_shapes.specs.Boxes.{Box}
use Rattle.spec_tree.specs.Trees.{Tree, leaf, branch, numbers, levels, kind_at, left_at, right_at}
use Rattle.spec_tree.specs.Hangs.{Hangs, leaf_slice}
use Rattle.spec_tree.proofs.Trees.{levels_least}
use Rattle.spec_search.specs.Walk.{Search, Sought, is_leaf, took_one, took_all, in_turn, looked_at, visited, node_walk, pair_walk, root_walk}

module _ {S : Type 0} (how : Search S) (order links : List ℕ) where
  -- a node that is skipped leaves what is kept, and the count
  pub walk_skipped : (d node : ℕ) (s : Sought S) → how.skipped node s.best ≡ true → node_walk how order links d node s ≡ s
  unfolding node_walk
  walk_skipped zero node s e = simp e
  walk_skipped (suc d) node s e = simp e

  -- a leaf that is not skipped is measured whole
  pub walk_leaf : (d node : ℕ) (s : Sought S) → how.skipped node s.best ≡ false → is_leaf links node ≡ true
      → node_walk how order links d node s ≡ took_all how.took (leaf_slice order links node) s
  unfolding node_walk
  walk_leaf zero node s e k = simp (e, k)
  walk_leaf (suc d) node s e k = simp (e, k)

  -- a branch that is not skipped is the walk of its children, one level fewer remaining
  pub walk_branch : (d node : ℕ) (s : Sought S) → how.skipped node s.best ≡ false → is_leaf links node ≡ false → (d ≡ 0 → ⊥)
      → node_walk how order links d node s ≡ pair_walk how order links (d - 1) (left_at links node) (right_at links node) s
  unfolding node_walk pair_walk
  walk_branch zero node s e k z = absurd (z refl)
  walk_branch (suc d) node s e k z = simp (e, k, sub-one)

  -- a root that is a leaf is measured whole
  pub root_leaf : (d node : ℕ) (s : Sought S) → is_leaf links node ≡ true
      → root_walk how order links d node s ≡ took_all how.took (leaf_slice order links node) s
  unfolding root_walk
  root_leaf zero node s k = simp k
  root_leaf (suc d) node s k = simp k

  -- a root that is a branch is the walk of its children, one level fewer remaining
  pub root_branch : (d node : ℕ) (s : Sought S) → is_leaf links node ≡ false → (d ≡ 0 → ⊥)
      → root_walk how order links d node s ≡ pair_walk how order links (d - 1) (left_at links node) (right_at links node) s
  unfolding root_walk
  root_branch zero node s k z = absurd (z refl)
  root_branch (suc d) node s k z = simp (k, sub-one)

  -- a node that is not skipped is looked at as a root is
  pub walk_looked : (d node : ℕ) (s : Sought S) → how.skipped node s.best ≡ false → root_walk how order links d node s ≡ node_walk how order links d node s
  unfolding node_walk root_walk pair_walk
  walk_looked zero node s e = simp e
  walk_looked (suc d) node s e = simp e

  -- right child first: the left one goes on from what the right one kept
  pub pair_right : (d l r : ℕ) (s : Sought S) → how.right_first l r ≡ true
      → pair_walk how order links d l r s ≡ node_walk how order links d l (node_walk how order links d r s)
  unfolding pair_walk
  pair_right d l r s e = simp e

  -- left child first: the right one goes on from what the left one kept
  pub pair_left : (d l r : ℕ) (s : Sought S) → how.right_first l r ≡ false
      → pair_walk how order links d l r s ≡ node_walk how order links d r (node_walk how order links d l s)
  unfolding pair_walk
  pair_left d l r s e = simp e

-- ---- what measuring a triangle keeps true of what is kept, a walk keeps true
module _ {S : Type 0} (how : Search S) (order links : List ℕ) (Holds : S → Type 0) (keeps : (t : ℕ) (k : S) → Holds k → Holds (how.took t k)) where
  all_keep : (ts : List ℕ) (s : Sought S) → Holds s.best → Holds (took_all how.took ts s).best
  unfolding took_all
  all_keep [] s h = h
  all_keep (t ∷ ts) s h = all_keep ts (took_one how.took t s) (keeps t s.best h)

  -- a walk of two nodes that keeps it true
  PairKeeps : (ℕ → ℕ → Sought S → Sought S) → Type 0
  PairKeeps pair = (l r : ℕ) (s : Sought S) → Holds s.best → Holds (pair l r s).best

  turn_keeps : (first : Bool) (walk : ℕ → Sought S → Sought S) → ((n : ℕ) (s : Sought S) → Holds s.best → Holds (walk n s).best)
      → (l r : ℕ) (s : Sought S) → Holds s.best → Holds (in_turn first walk l r s).best
  turn_keeps true walk w l r s h = w l (walk r s) (w r s h)
  turn_keeps false walk w l r s h = w r (walk l s) (w l s h)

  looked_keeps : (leaf? : Bool) (pair : ℕ → ℕ → Sought S → Sought S) (node : ℕ) (s : Sought S) → PairKeeps pair
      → Holds s.best → Holds (looked_at how order links leaf? pair node s).best
  unfolding PairKeeps
  looked_keeps true pair node s w h = all_keep (leaf_slice order links node) s h
  looked_keeps false pair node s w h = w (left_at links node) (right_at links node) s h

  visited_keeps : (over : Bool) (pair : ℕ → ℕ → Sought S → Sought S) (node : ℕ) (s : Sought S) → PairKeeps pair
      → Holds s.best → Holds (visited how order links over pair node s).best
  visited_keeps true pair node s w h = h
  visited_keeps false pair node s w h = looked_keeps (is_leaf links node) pair node s w h

  -- so that a walk need not be followed to know that what held before it holds after it
  pub walk_keeps : (d node : ℕ) (s : Sought S) → Holds s.best → Holds (node_walk how order links d node s).best
  unfolding node_walk PairKeeps
  walk_keeps zero node s h = visited_keeps (how.skipped node s.best) (λ l r s'. s') node s (λ l r s' k. k) h
  walk_keeps (suc d) node s h =
      visited_keeps (how.skipped node s.best) (λ l r s'. in_turn (how.right_first l r) (node_walk how order links d) l r s') node s
      (λ l r s' k. turn_keeps (how.right_first l r) (node_walk how order links d) (walk_keeps d) l r s' k) h

-- ---- the kind of the node at which a tree hangs
module _ (box_at : ℕ → Box) (order links : List ℕ) (boxes : List Float) (node : ℕ) where
  leaf_kind : (slice : List ℕ) → Hangs box_at order links boxes (leaf slice) node → is_leaf links node ≡ true
  leaf_kind slice h = eq-eqb _ _ h.kind_is

  branch_kind : (l r : Tree) → Hangs box_at order links boxes (branch l r) node → is_leaf links node ≡ false
  branch_kind l r h = ne_eqb _ _ (λ (e : kind_at links node ≡ 1). not_both h.kind_is e)
    where
      not_both : kind_at links node ≡ 2 → kind_at links node ≡ 1 → ⊥
      not_both p q = omega arith

-- ---- how many triangles are measured
counted_all : {S : Type 0} (took : ℕ → S → S) (ts : List ℕ) (s : Sought S) → (took_all took ts s).measured ≡ s.measured + length ts
unfolding took_all
counted_all took [] s = omega arith
counted_all took (t ∷ ts) s = counted_all took ts (took_one took t s) ∙ omega arith

module _ {S : Type 0} (how : Search S) (box_at : ℕ → Box) (order links : List ℕ) (boxes : List Float) where
  in_turn_most : (first : Bool) (walk : ℕ → Sought S → Sought S) (a b l r : ℕ) (s : Sought S)
      → ((s' : Sought S) → (walk l s').measured ≤ s'.measured + a) → ((s' : Sought S) → (walk r s').measured ≤ s'.measured + b)
      → (in_turn first walk l r s).measured ≤ s.measured + (a + b)
  in_turn_most true walk a b l r s h k = omega (arith, k s, h (walk r s))
  in_turn_most false walk a b l r s h k = omega (arith, h s, k (walk l s))

  visited_most : (over : Bool) (pair : ℕ → ℕ → Sought S → Sought S) (node most : ℕ) (s : Sought S)
      → (looked_at how order links (is_leaf links node) pair node s).measured ≤ s.measured + most
      → (visited how order links over pair node s).measured ≤ s.measured + most
  visited_most true pair node most s h = omega arith
  visited_most false pair node most s h = h

  looked_leaf : (slice : List ℕ) (pair : ℕ → ℕ → Sought S → Sought S) (node : ℕ) (s : Sought S) → Hangs box_at order links boxes (leaf slice) node
      → (looked_at how order links (is_leaf links node) pair node s).measured ≤ s.measured + length slice
  looked_leaf slice pair node s h =
      rw (leaf_kind box_at order links boxes node slice h, ← h.slice_is) (omega (arith, counted_all how.took (leaf_slice order links node) s))

  -- a walk measures at most the triangles of the tree that hangs at its node, so the count does not overflow
  pub counted_most : (t : Tree) (d node : ℕ) (s : Sought S) → Hangs box_at order links boxes t node → levels t ≤ suc d
      → (node_walk how order links d node s).measured ≤ s.measured + length (numbers t)
  unfolding node_walk numbers levels
  counted_most (leaf slice) zero node s h deep = visited_most (how.skipped node s.best) _ node (length slice) s (looked_leaf slice _ node s h)
  counted_most (leaf slice) (suc d) node s h deep = visited_most (how.skipped node s.best) _ node (length slice) s (looked_leaf slice _ node s h)
  counted_most (branch l r) zero node s h deep = absurd (omega (arith, levels_least l, le-max_left (levels l) (levels r)))
  counted_most (branch l r) (suc d) node s h deep =
      visited_most (how.skipped node s.best) _ node (length (numbers (branch l r))) s
      (rw (branch_kind box_at order links boxes node l r h, length-append (numbers l) (numbers r))
      (in_turn_most (how.right_first (left_at links node) (right_at links node)) (node_walk how order links d) (length (numbers l)) (length (numbers r))
      (left_at links node) (right_at links node) s
      (λ s'. counted_most l d (left_at links node) s' h.left (omega (arith, le-max_left (levels l) (levels r))))
      (λ s'. counted_most r d (right_at links node) s' h.right (omega (arith, le-max_right (levels l) (levels r))))))
