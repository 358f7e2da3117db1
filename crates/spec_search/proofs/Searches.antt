-- Any search that skips a node by its box alone and what is kept, and skips a box only where no triangle inside it would change what is kept, keeps by
-- the walk of an accepted tree what the scan of all triangles keeps.
use mathlib.Core.Path.{◌≡◌, sym, ap, subst, ◌∙◌}
use mathlib.Core.Bool.{Bool, true, false}
use mathlib.Core.List.Memᴰ
use mathlib.Core.List.{List, Memᴰ}
use Prim.Native.Nat.{ℕ, suc, ◌-◌, ◌≤◌, ◌<◌}
use native.Mathlib.Omega.{arith}
use borrow.Author.Tests.{eq-eqb, ne_eqb}
use lib.Ieee.{Float}
use Rattle.spec_shapes.specs.Boxes.{Box, Contains, Proper}
use Rattle.spec_lists.specs.Limits.{deepest}
use Rattle.spec_lists.specs.Reading.{box_at, triangle_count}
use Rattle.spec_lists.specs.Passed.{GoodTriangles}
use Rattle.spec_lists.proofs.Reading.{triangle_inside, box_at_proper}
use Rattle.spec_tree.specs.Order.{range}
use Rattle.spec_tree.specs.Trees.{Tree, leaf, branch, numbers, levels, Filled, box_over, kind_at, left_at, right_at, node_box}
use Rattle.spec_tree.specs.Accepted.{Listing, accepted}
use Rattle.spec_tree.specs.Hangs.{Hangs, leaf_slice}
use Rattle.spec_tree.proofs.Order.{permutes_below}
use Rattle.spec_tree.proofs.Accepted.{accepted_listed}
use Rattle.spec_tree.proofs.Hangs.{listing_hangs}
use Rattle.spec_tree.proofs.Boxes.{Holds, box_over_holds}
use Rattle.spec_search.specs.Walk.{Search, Sought, is_leaf, node_walk, fold}
use Rattle.spec_search.proofs.Scan.{walk_scans, kept_permuted}

two_is_not_one : ◌≡◌ {A = ℕ} 2 1 → ⊥
two_is_not_one e = omega arith

module _ (triangles : List Float) (good : GoodTriangles triangles) {S : Type 0} (took : ℕ → S → S) (Good : S → Type 0)
    (stays : (t : ℕ) (s : S) → Good s → Good (took t s))
    (swaps : (t u : ℕ) (s : S) → Good s → took t (took u s) ≡ took u (took t s)) (skipped : Box → S → Bool)
    (skips : (b : Box) → Proper b → (t : ℕ) → t < triangle_count triangles → Contains b (box_at triangles t) → (s : S) → Good s → skipped b s ≡ true
    → took t s ≡ s)
    (right_first : ℕ → ℕ → Bool) (order links : List ℕ) (boxes : List Float) where
  abbrev n : ℕ
  n = triangle_count triangles

  abbrev skipped_node : ℕ → S → Bool
  skipped_node node s = skipped (node_box boxes node) s

  abbrev how : Search S
  how = record { skipped = skipped_node; right_first = right_first; took = took }

  -- a tree that hangs at a node, whose triangles are in the list
  pub record Met (t : Tree) (node : ℕ) : Type 0 where
    pub hangs : Hangs (box_at triangles) order links boxes t node
    pub filled : Filled t
    pub below : (k : ℕ) → Memᴰ k (numbers t) → k < n

  box_at_node : (t : Tree) (node : ℕ) → Hangs (box_at triangles) order links boxes t node → node_box boxes node ≡ box_over (box_at triangles) t
  unfolding box_over
  box_at_node (leaf slice) node h = h.box_is
  box_at_node (branch l r) node h = h.box_is

  met_leaf : (slice : List ℕ) (node : ℕ) → Met (leaf slice) node → (is_leaf links node ≡ true) × (leaf_slice order links node ≡ slice)
  met_leaf slice node m = (eq-eqb _ _ m.hangs.kind_is, m.hangs.slice_is)

  met_branch : (l r : Tree) (node : ℕ) → Met (branch l r) node → (is_leaf links node ≡ false) × (Met l (left_at links node) × Met r (right_at links node))
  unfolding numbers
  met_branch l r node m = (
    ne_eqb _ _ (λ (e : kind_at links node ≡ 1). two_is_not_one (sym m.hangs.kind_is ∙ e)),
    (
      record { hangs = m.hangs.left; filled = m.filled.0; below = λ k h. m.below k (Memᴰ.append_left (numbers r) h) },
      record { hangs = m.hangs.right; filled = m.filled.1; below = λ k h. m.below k (Memᴰ.append_right (numbers l) h) },
    ),
  )

  met_skips : (t : Tree) (node : ℕ) (s : S) → Met t node → Good s → skipped_node node s ≡ true → (k : ℕ) → Memᴰ k (numbers t) → took k s ≡ s
  met_skips t node s m g h k mem =
      let holds : Holds (box_at triangles) (box_over (box_at triangles) t) (numbers t) =
      box_over_holds (box_at triangles) t m.filled (λ j mj. box_at_proper triangles good.coordinates j (triangle_inside triangles j (m.below j mj))) in
      skips (box_over (box_at triangles) t) holds.proper k (m.below k mem) (holds.each k mem) s g (rw (box_at_node t node m.hangs) at h)

  -- the walk of a tree that is met at a node
  walk_answers : (t : Tree) (d node : ℕ) (s : Sought S) → Met t node → levels t ≤ suc d → Good s.best
      → (node_walk how order links d node s).best ≡ fold took (numbers t) s.best
  walk_answers = walk_scans took Good stays swaps skipped_node right_first order links Met met_leaf met_branch met_skips

  module _ (nodes : ℕ) where
    listing_met : (t : Tree) → Listing (box_at triangles) n order links boxes nodes t → Met t (nodes - 1)
    listing_met t s = record {
      hangs = listing_hangs (box_at triangles) n order links boxes nodes t s;
      filled = s.filled;
      below = λ k m. permutes_below n order s.permuted k (subst (λ (l : List ℕ). Memᴰ k l) (sym s.order_is) m);
    }

    -- the walk of an accepted tree keeps what the scan of all triangles keeps
    pub search_is_scan : (s : Sought S) → Good s.best → accepted (box_at triangles) n order links boxes nodes ≡ true
        → (node_walk how order links (deepest - 1) (nodes - 1) s).best ≡ fold took (range n) s.best
    search_is_scan s g passes =
        let listed = accepted_listed (box_at triangles) n order links boxes nodes passes in
        let t : Tree = listed.0 in
        let l : Listing (box_at triangles) n order links boxes nodes t = listed.1 in
        walk_answers t (deepest - 1) (nodes - 1) s (listing_met t l) l.shallow g
        ∙ ap (λ (ks : List ℕ). fold took ks s.best) (sym l.order_is)
        ∙ kept_permuted took Good stays swaps l.permuted s.best g
