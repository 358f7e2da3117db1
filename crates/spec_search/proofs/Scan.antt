-- Any walk of a tree keeps what the scan of the tree's triangles keeps, over any search with two properties:
-- triangles may be measured in any order, and a node is skipped only where nothing under it would be kept.
-- No float is named here: the properties are a section's parameters.
use mathlib.Core.Path.{◌≡◌, refl, sym, ap, subst, ◌∙◌}
use mathlib.Core.Bool.{Bool, true, false}
use mathlib.Core.List.{List, [], ◌∷◌, ◌++◌, Memᴰ, Permᴰ}
use Prim.Native.Nat.{ℕ, zero, suc, ◌≤◌}
use native.Mathlib.Nat.{le-max_left, le-max_right}
use native.Mathlib.Omega.{arith}
use Rattle.spec_tree.specs.Trees.{Tree, leaf, branch, numbers, levels, left_at, right_at}
use Rattle.spec_tree.specs.Hangs.{leaf_slice}
use Rattle.spec_tree.proofs.Trees.{levels_least}
use Rattle.spec_search.specs.Walk.{Search, Sought, is_leaf, took_one, took_all, in_turn, looked_at, visited, node_walk, fold}

-- measuring a list keeps what the fold over it keeps
kept_all : {S : Type 0} (took : ℕ → S → S) (ts : List ℕ) (s : Sought S) → (took_all took ts s).best ≡ fold took ts s.best
unfolding took_all fold
kept_all took [] s = refl
kept_all took (t ∷ ts) s = kept_all took ts (took_one took t s)

-- the fold over two lists goes on from what the first one kept, as a walk goes from subtree to subtree
pub kept_append : {S : Type 0} (took : ℕ → S → S) (xs ys : List ℕ) (s : S) → fold took (xs ++ ys) s ≡ fold took ys (fold took xs s)
unfolding fold
kept_append took [] ys s = refl
kept_append took (x ∷ xs) ys s = kept_append took xs ys (took x s)

-- The order of measuring does not matter. `Good` is what holds of all that is ever kept, as that its distance is a number.
module _ {S : Type 0} (took : ℕ → S → S) (Good : S → Type 0) (stays : (t : ℕ) (s : S) → Good s → Good (took t s))
    (swaps : (t u : ℕ) (s : S) → Good s → took t (took u s) ≡ took u (took t s)) where
  good_kept : (ts : List ℕ) (s : S) → Good s → Good (fold took ts s)
  unfolding fold
  good_kept [] s g = g
  good_kept (t ∷ ts) s g = good_kept ts (took t s) (stays t s g)

  past : (t : ℕ) (ys : List ℕ) (s : S) → Good s → took t (fold took ys s) ≡ fold took ys (took t s)
  unfolding fold
  past t [] s g = refl
  past t (y ∷ ys) s g = past t ys (took y s) (stays y s g) ∙ ap (fold took ys) (swaps t y s g)

  lists_swap : (xs ys : List ℕ) (s : S) → Good s → fold took xs (fold took ys s) ≡ fold took ys (fold took xs s)
  unfolding fold
  lists_swap [] ys s g = refl
  lists_swap (x ∷ xs) ys s g = ap (fold took xs) (past x ys s g) ∙ lists_swap xs ys (took x s) (stays x s g)

  -- the fold over a reordered list keeps the same: the tree's order of triangles does not matter
  pub kept_permuted : {xs ys : List ℕ} → Permᴰ xs ys → (s : S) → Good s → fold took xs s ≡ fold took ys s
  unfolding fold
  kept_permuted Permᴰ.nil s g = refl
  kept_permuted (Permᴰ.cons {a = a} {b = b} {l₂ = l₂} e p) s g = kept_permuted p (took a s) (stays a s g) ∙ ap (λ (t : ℕ). fold took l₂ (took t s)) e
  kept_permuted (Permᴰ.swap {a = a} {b = b} {a' = a'} {b' = b'} {l = l} e f) s g =
      ap (fold took l) (swaps b a s g ∙ ap (λ (t : ℕ). took t (took b s)) e ∙ ap (λ (t : ℕ). took b' (took t s)) f)
  kept_permuted (Permᴰ.trans p q) s g = kept_permuted p s g ∙ kept_permuted q s g

  -- The walk of the tree that stands at a node. `At t n` is what holds of a tree t and the node n that the walk finds it at.
  module _ (skipped : ℕ → S → Bool) (right_first : ℕ → ℕ → Bool) (order links : List ℕ) (At : Tree → ℕ → Type 0)
      (leaf-at : (slice : List ℕ) (n : ℕ) → At (leaf slice) n → (is_leaf links n ≡ true) × (leaf_slice order links n ≡ slice))
      (branch-at : (l r : Tree) (n : ℕ) → At (branch l r) n → (is_leaf links n ≡ false) × (At l (left_at links n) × At r (right_at links n)))
      (skips : (t : Tree) (n : ℕ) (s : S) → At t n → Good s → skipped n s ≡ true → (k : ℕ) → Memᴰ k (numbers t) → took k s ≡ s) where
    abbrev how : Search S
    how = record { skipped = skipped; right_first = right_first; took = took }

    still : (ts : List ℕ) (s : S) → ((t : ℕ) → Memᴰ t ts → took t s ≡ s) → fold took ts s ≡ s
    unfolding fold
    still [] s h = refl
    still (t ∷ ts) s h = ap (fold took ts) (h t (Memᴰ.head refl)) ∙ still ts s (λ u m. h u (Memᴰ.tail m))

    -- skipped, nothing under the node would be kept; else the node is looked at
    at_node : (over : Bool) (t : Tree) (pair : ℕ → ℕ → Sought S → Sought S) (n : ℕ) (s : Sought S)
        → (over ≡ true → (k : ℕ) → Memᴰ k (numbers t) → took k s.best ≡ s.best)
        → (looked_at how order links (is_leaf links n) pair n s).best ≡ fold took (numbers t) s.best
        → (visited how order links over pair n s).best ≡ fold took (numbers t) s.best
    at_node true t pair n s h e = sym (still (numbers t) s.best (h refl))
    at_node false t pair n s h e = e

    looked_leaf : (leaf? : Bool) (slice : List ℕ) (pair : ℕ → ℕ → Sought S → Sought S) (n : ℕ) (s : Sought S) → leaf? ≡ true → leaf_slice order links n ≡ slice
        → (looked_at how order links leaf? pair n s).best ≡ fold took slice s.best
    looked_leaf true slice pair n s e p = kept_all took (leaf_slice order links n) s ∙ ap (λ (l : List ℕ). fold took l s.best) p
    looked_leaf false slice pair n s e p = rw e (kept_all took (leaf_slice order links n) s ∙ ap (λ (l : List ℕ). fold took l s.best) p)

    -- two subtrees, whichever goes first
    in_turn_lem : (first : Bool) (walk : ℕ → Sought S → Sought S) (xs ys : List ℕ) (l r : ℕ) (s : Sought S) → Good s.best
        → ((s' : Sought S) → Good s'.best → (walk l s').best ≡ fold took xs s'.best)
        → ((s' : Sought S) → Good s'.best → (walk r s').best ≡ fold took ys s'.best)
        → (in_turn first walk l r s).best ≡ fold took (xs ++ ys) s.best
    in_turn_lem true walk xs ys l r s g h k =
        h (walk r s) (subst Good (sym (k s g)) (good_kept ys s.best g)) ∙ ap (fold took xs) (k s g) ∙ lists_swap xs ys s.best g
        ∙ sym (kept_append took xs ys s.best)
    in_turn_lem false walk xs ys l r s g h k =
        k (walk l s) (subst Good (sym (h s g)) (good_kept xs s.best g)) ∙ ap (fold took ys) (h s g) ∙ sym (kept_append took xs ys s.best)

    -- whatever it skips and whichever child goes first, a walk keeps what the scan of the tree's triangles keeps
    pub walk_scans : (t : Tree) (d n : ℕ) (s : Sought S) → At t n → levels t ≤ suc d → Good s.best
        → (node_walk how order links d n s).best ≡ fold took (numbers t) s.best
    unfolding node_walk numbers levels
    walk_scans (leaf slice) zero n s x deep g =
        at_node (skipped n s.best) (leaf slice) (λ l r s'. s') n s (skips (leaf slice) n s.best x g)
        (looked_leaf (is_leaf links n) slice (λ l r s'. s') n s (leaf-at slice n x).0 (leaf-at slice n x).1)
    walk_scans (leaf slice) (suc d) n s x deep g =
        at_node (skipped n s.best) (leaf slice) (λ l r s'. in_turn (right_first l r) (node_walk how order links d) l r s') n s
        (skips (leaf slice) n s.best x g)
        (looked_leaf (is_leaf links n) slice (λ l r s'. in_turn (right_first l r) (node_walk how order links d) l r s') n s (leaf-at slice n x).0
        (leaf-at slice n x).1)
    walk_scans (branch l r) zero n s x deep g = absurd (omega (arith, levels_least l, le-max_left (levels l) (levels r)))
    walk_scans (branch l r) (suc d) n s x deep g =
        let b = branch-at l r n x in
        at_node (skipped n s.best) (branch l r) (λ l' r' s'. in_turn (right_first l' r') (node_walk how order links d) l' r' s') n s
        (skips (branch l r) n s.best x g)
        (rw b.0
        (in_turn_lem (right_first (left_at links n) (right_at links n)) (node_walk how order links d) (numbers l) (numbers r) (left_at links n)
        (right_at links n) s g
        (λ s' g'. walk_scans l d (left_at links n) s' b.1.0 (omega (arith, le-max_left (levels l) (levels r))) g')
        (λ s' g'. walk_scans r d (right_at links n) s' b.1.1 (omega (arith, le-max_right (levels l) (levels r))) g')))
