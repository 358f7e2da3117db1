-- The steps of the winding number by dipoles, as the walk takes them, and what the walk finds at the nodes that it goes to.
use mathlib.Core.Path.{◌≡◌, sym, ap, ◌∙◌}
use mathlib.Core.Bool.{Bool, true, false}
use mathlib.Core.Logic.{◌⊎◌, inl, inr}
use mathlib.Core.List.{List}
use Prim.Native.Nat.{ℕ, suc, ◌+◌, ◌-◌, ◌*◌, ◌≤◌, ◌<◌}
use native.Mathlib.Omega.{arith}
use borrow.Author.Tests.{ne_eqb}
use lib.ListN.{length}
use lib.Ieee.{Float, Format, add}
use lib.Ieee.Scale.{finite}
use Rattle.spec_numbers.specs.Values.{zero}
use Rattle.spec_tables.specs.Tables.{slice}
use Rattle.spec_shapes.specs.Points.{Point}
use Rattle.spec_shapes.specs.Triangles.{Triangle}
use Rattle.spec_tree.specs.Trees.{kind_at, left_at, right_at}
use Rattle.spec_tree.specs.Hangs.{LeafRange, ChildrenBefore}
use Rattle.spec_dipoles.specs.Sums.{Dipole}
use Rattle.spec_dipoles.specs.Far.{is_used, term_or_nan}
use Rattle.spec_dipoles.specs.Fast.{slice_winding, fast_by, fast_at}
use Rattle.spec_dipoles.specs.Stored.{NodeIn, RootIn}
use Rattle.spec_dipoles.proofs.Far.{finite_is_used, used_term}

module _ (f : Format) (triangle : ℕ → Triangle) (order links : List ℕ) (dipole : ℕ → Dipole) (accuracy : Float) (q : Point) where
  abbrev at : ℕ → ℕ → Float
  at = fast_at f triangle order links dipole accuracy q

  abbrev by : Bool → (ℕ → Float) → ℕ → Float
  by = fast_by f triangle order links dipole accuracy q

  -- the recursion ends where no level remains
  pub none_left : (levels node : ℕ) → levels ≡ 0 → zero ≡ at levels node
  unfolding fast_at
  none_left levels node p = rw p

  module _ (levels node : ℕ) (some : levels ≡ 0 → ⊥) (term : Float) (made : term ≡ term_or_nan f (dipole node) accuracy q) where
    turn : at levels node ≡ by (is_used f (dipole node) accuracy q) (at (levels - 1)) node
    unfolding fast_at
    turn = let p : levels ≡ suc (levels - 1) = omega arith in ap (λ (k : ℕ). at k node) p

    asked : (b : Bool) → finite term ≡ b → is_used f (dipole node) accuracy q ≡ b
    asked b h = sym (finite_is_used f (dipole node) accuracy q) ∙ rw (← made) h

    -- a finite term is the answer
    pub used_far : finite term ≡ true → term ≡ at levels node
    used_far h = made ∙ used_term f (dipole node) accuracy q (asked true h) ∙ sym (turn ∙ rw (asked true h))

    module _ (near : finite term ≡ false) (left right : ℕ) (left_is : left ≡ left_at links node) (right_is : right ≡ right_at links node) where
      -- else a leaf is summed exactly
      pub near_leaf : (w : Float) → kind_at links node ≡ 1 → w ≡ slice_winding f triangle (slice order left (right - left)) q → w ≡ at levels node
      near_leaf w p e = e ∙ rw (left_is, right_is) (sym (turn ∙ rw (asked false near, p)))

      -- and a branch is its left child's number plus its right child's
      pub near_branch : (l r : Float) → (kind_at links node ≡ 1 → ⊥) → l ≡ at (levels - 1) left → r ≡ at (levels - 1) right → add f l r ≡ at levels node
      near_branch l r p from-left from-right =
          rw (from-left, from-right, left_is, right_is) (sym (turn ∙ rw (asked false near, ne_eqb (kind_at links node) 1 p)))

-- ---- what the walk needs at a node
module _ (triangles : List Float) (order links : List ℕ) (sums : List Float) where
  module _ (node : ℕ) (h : NodeIn triangles order links sums node) where
    -- the node's sixteen numbers are there
    pub node_sums_lem : 16 * node + 16 ≤ length sums
    node_sums_lem = omega (arith, h.here, h.room)

    -- and its three links
    pub node_links : 3 * node + 3 ≤ length links
    node_links = omega (arith, h.here, h.readable.links_there)

    -- a leaf's range lies within the order list
    pub leaf_range : kind_at links node ≡ 1 → (left_at links node ≤ right_at links node) × (right_at links node ≤ length order)
    leaf_range p = go (h.readable.node_is node h.here)
      where
        go : LeafRange order links node ⊎ ChildrenBefore links node → (left_at links node ≤ right_at links node) × (right_at links node ≤ length order)
        go (inl l) = (omega (arith, l.nonempty), l.within)
        go (inr b) = absurd (omega (arith, b.is_branch))

    before : (kind_at links node ≡ 1 → ⊥) → ChildrenBefore links node
    before p = go (h.readable.node_is node h.here)
      where
        go : LeafRange order links node ⊎ ChildrenBefore links node → ChildrenBefore links node
        go (inl l) = absurd (p l.is_leaf)
        go (inr b) = b

    below : (k : ℕ) → k < node → NodeIn triangles order links sums k
    below k l = record { nodes = h.nodes; readable = h.readable; here = omega (arith, h.here); room = h.room }

    -- the left child of a branch has what the recursive call on it needs
    pub left_in : (kind_at links node ≡ 1 → ⊥) → NodeIn triangles order links sums (left_at links node)
    left_in p = below (left_at links node) (before p).left_before

    -- and so has the right child
    pub right_in : (kind_at links node ≡ 1 → ⊥) → NodeIn triangles order links sums (right_at links node)
    right_in p = below (right_at links node) (before p).right_before

  -- the walk begins at the root, the last node
  pub root_in : (nodes : ℕ) → RootIn triangles order links sums nodes → NodeIn triangles order links sums (nodes - 1)
  root_in nodes h = record { nodes = nodes; readable = h.readable; here = omega (arith, h.some); room = h.room }
