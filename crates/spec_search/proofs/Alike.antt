-- Two searches that skip alike, turn alike and keep alike walk alike: what is kept stays alike, and they measure as many triangles.
use mathlib.Core.Path.{◌≡◌, ap}
use mathlib.Core.Bool.{Bool, true, false}
use mathlib.Core.List.{List, [], ◌∷◌}
use Prim.Native.Nat.{ℕ, zero, suc, ◌+◌, ◌-◌, ◌<◌}
use native.Mathlib.Omega.{arith}
use Rattle.spec_tree.specs.Trees.{left_at, right_at}
use Rattle.spec_tree.specs.Order.{EntriesBelow}
use Rattle.spec_tree.specs.Hangs.{leaf_slice}
use Rattle.spec_search.specs.Walk.{Search, Sought, is_leaf, took_one, took_all, in_turn, looked_at, visited, node_walk}
use Rattle.spec_search.proofs.Steps.{slice_below}

-- `n` is a number that all triangles are below
module _ {S S' : Type 0} (how : Search S) (how' : Search S') (order links : List ℕ) (n : ℕ) (listed : EntriesBelow n order) (Alike : S → S' → Type 0)
    (turns : (l r : ℕ) → how.right_first l r ≡ how'.right_first l r)
    (skips : (node : ℕ) (a : S) (b : S') → Alike a b → how.skipped node a ≡ how'.skipped node b)
    (takes : (t : ℕ) → t < n → (a : S) (b : S') → Alike a b → Alike (how.took t a) (how'.took t b)) where
  pub record Both (s : Sought S) (s' : Sought S') : Type 0 where
    pub bests : Alike s.best s'.best
    pub counts : s.measured ≡ s'.measured

  all_alike : (ts : List ℕ) → EntriesBelow n ts → (s : Sought S) (s' : Sought S') → Both s s' → Both (took_all how.took ts s) (took_all how'.took ts s')
  unfolding took_all
  all_alike [] below s s' h = h
  all_alike (t ∷ ts) below s s' h =
      all_alike ts (λ i l. below (suc i) (omega arith)) (took_one how.took t s) (took_one how'.took t s')
      (record { bests = takes t (below 0 (omega arith)) s.best s'.best h.bests; counts = ap (λ (m : ℕ). m + 1) h.counts })

  PairAlike : (ℕ → ℕ → Sought S → Sought S) → (ℕ → ℕ → Sought S' → Sought S') → Type 0
  PairAlike pair pair' = (l r : ℕ) (s : Sought S) (s' : Sought S') → Both s s' → Both (pair l r s) (pair' l r s')

  turn_alike : (first first' : Bool) → first ≡ first' → (walk : ℕ → Sought S → Sought S) (walk' : ℕ → Sought S' → Sought S')
      → ((m : ℕ) (s : Sought S) (s' : Sought S') → Both s s' → Both (walk m s) (walk' m s'))
      → (l r : ℕ) (s : Sought S) (s' : Sought S') → Both s s' → Both (in_turn first walk l r s) (in_turn first' walk' l r s')
  turn_alike true first' e walk walk' w l r s s' h = rw (← e) (w l _ _ (w r s s' h))
  turn_alike false first' e walk walk' w l r s s' h = rw (← e) (w r _ _ (w l s s' h))

  looked_alike : (leaf? : Bool) (pair : ℕ → ℕ → Sought S → Sought S) (pair' : ℕ → ℕ → Sought S' → Sought S') (node : ℕ) (s : Sought S) (s' : Sought S')
      → PairAlike pair pair' → Both s s' → Both (looked_at how order links leaf? pair node s) (looked_at how' order links leaf? pair' node s')
  unfolding PairAlike
  looked_alike true pair pair' node s s' w h =
      all_alike (leaf_slice order links node) (slice_below n order (left_at links node) (right_at links node - left_at links node) listed) s s' h
  looked_alike false pair pair' node s s' w h = w (left_at links node) (right_at links node) s s' h

  visited_alike : (over over' : Bool) → over ≡ over' → (pair : ℕ → ℕ → Sought S → Sought S) (pair' : ℕ → ℕ → Sought S' → Sought S') (node : ℕ)
      (s : Sought S) (s' : Sought S') → PairAlike pair pair' → Both s s'
      → Both (visited how order links over pair node s) (visited how' order links over' pair' node s')
  visited_alike true over' e pair pair' node s s' w h = rw (← e) h
  visited_alike false over' e pair pair' node s s' w h = rw (← e) (looked_alike (is_leaf links node) pair pair' node s s' w h)

  -- so a walk by the one search is a walk by the other
  pub walks_alike : (d node : ℕ) (s : Sought S) (s' : Sought S') → Both s s' → Both (node_walk how order links d node s) (node_walk how' order links d node s')
  unfolding node_walk PairAlike
  walks_alike zero node s s' h =
      visited_alike _ _ (skips node s.best s'.best h.bests) (λ l r s''. s'') (λ l r s''. s'') node s s' (λ l r a b k. k) h
  walks_alike (suc d) node s s' h =
      visited_alike _ _ (skips node s.best s'.best h.bests)
      (λ l r s''. in_turn (how.right_first l r) (node_walk how order links d) l r s'')
      (λ l r s''. in_turn (how'.right_first l r) (node_walk how' order links d) l r s'') node s s'
      (λ l r a b k. turn_alike (how.right_first l r) (how'.right_first l r) (turns l r) (node_walk how order links d) (node_walk how' order links d)
      (walks_alike d) l r a b k) h
