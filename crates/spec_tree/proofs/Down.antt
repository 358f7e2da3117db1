-- Ways down the links as code goes them: to the first node of a listing, and to the first that is too deep.
use mathlib.Core.Path.{◌≡◌, refl, sym, ap, ◌∙◌}
use mathlib.Core.Bool.{Bool, true, false, cond}
use mathlib.Core.List.{List}
use Prim.Native.Nat.{ℕ, zero, suc, ◌+◌, ◌-◌, ◌*◌, ◌≤◌, ◌<◌}
use native.Mathlib.Omega.{arith}
use borrow.Author.Tests.{ne_eqb, eqb-true, le-leb, lt-leb}
use lib.Dec.{eqb}
use lib.ListN.{length}
use Rattle.spec_tree.specs.Trees.{kind_at, left_at, right_at}
use Rattle.spec_tree.specs.Hangs.{ChildrenBefore}
use Rattle.spec_tree.specs.Depth.{Descends}
use Rattle.spec_tree.specs.Ways.{first_of, deep_below, first_deep}

module _ (links : List ℕ) where
  -- where every branch before a node has its children before it, a way down from the node just before ends
  pub before_descends : (node : ℕ) → 0 < node → 3 * node ≤ length links → ((k : ℕ) → k < node → kind_at links k ≡ 2 → ChildrenBefore links k)
      → Descends links (node - 1)
  before_descends node some there falls = record { there = omega arith; falls = λ k h. falls k (omega arith) }

  -- ---- to the first node
  -- a node that is no branch is the first of its listing
  pub first_here : (k : ℕ) → (kind_at links k ≡ 2 → ⊥) → first_of links k k ≡ k
  unfolding first_of
  first_here zero e = refl
  first_here (suc k) e = rw (ne_eqb (kind_at links (suc k)) 2 e)

  module _ (top : ℕ) (d : Descends links top) where
    first_zero : (steps : ℕ) → first_of links steps 0 ≡ 0
    unfolding first_of
    first_zero zero = refl
    first_zero (suc steps) = go (eqb (kind_at links 0) 2) refl
      where
        go : (c : Bool) → eqb (kind_at links 0) 2 ≡ c → cond c (first_of links steps (left_at links 0)) 0 ≡ 0
        go false e = refl
        go true e = absurd (omega (arith, (d.falls 0 (omega arith) (eqb-true (kind_at links 0) 2 e)).left_before))

    -- steps that are enough are as good as more
    enough : (steps steps' k : ℕ) → k ≤ steps → k ≤ steps' → k ≤ top → first_of links steps k ≡ first_of links steps' k
    unfolding first_of
    enough zero steps' k a b w = let none : k ≡ 0 = omega arith in rw none (sym (first_zero steps'))
    enough (suc steps) zero k a b w = let none : k ≡ 0 = omega arith in rw none (first_zero (suc steps))
    enough (suc steps) (suc steps') k a b w =
        go (eqb (kind_at links k) 2) refl (λ (h : left_at links k < k). enough steps steps' (left_at links k) (omega arith) (omega arith) (omega arith))
      where
        go : (c : Bool) → eqb (kind_at links k) 2 ≡ c → (left_at links k < k → first_of links steps (left_at links k) ≡ first_of links steps' (left_at links k))
            → cond c (first_of links steps (left_at links k)) k ≡ cond c (first_of links steps' (left_at links k)) k
        go false e below = refl
        go true e below = below (d.falls k w (eqb-true (kind_at links k) 2 e)).left_before

    -- a branch's listing begins where its left child's does
    pub first_below : (k : ℕ) → k ≤ top → kind_at links k ≡ 2 → first_of links (left_at links k) (left_at links k) ≡ first_of links k k
    unfolding first_of
    first_below zero w e = absurd (omega (arith, (d.falls 0 w e).left_before))
    first_below (suc k) w e =
        let low : left_at links (suc k) < suc k = (d.falls (suc k) w e).left_before in
        rw e (enough (left_at links (suc k)) k (left_at links (suc k)) (omega arith) (omega arith) (omega arith))

  -- ---- to the first that is too deep
  module _ (levels node : ℕ) where
    -- where no level remains, all nodes of the listing are too deep
    pub deep_all : levels ≡ 0 → first_deep links levels node ≡ first_of links node node
    unfolding first_deep
    deep_all p = rw p

    module _ (some : levels ≡ 0 → ⊥) where
      opened : first_deep links levels node ≡ deep_below (eqb (kind_at links node) 2) (first_deep links (levels - 1)) links node
      unfolding first_deep
      opened = let p : levels ≡ suc (levels - 1) = omega arith in ap (λ (k : ℕ). first_deep links k node) p

      -- a node that is no branch has none below it
      pub deep_leaf : (kind_at links node ≡ 2 → ⊥) → first_deep links levels node ≡ node + 1
      deep_leaf p = opened ∙ rw (ne_eqb (kind_at links node) 2 p)

      module _ (kind : kind_at links node ≡ 2) (left : ℕ) (left_is : left ≡ left_at links node) (inLeft : ℕ)
          (in_left : inLeft ≡ first_deep links (levels - 1) left) where
        -- a branch has the one of its left subtree
        pub deep_left : inLeft ≤ left → first_deep links levels node ≡ inLeft
        deep_left h = opened ∙ rw (kind) (rw (← left_is, ← in_left, le-leb inLeft left h))

        module _ (none : left < inLeft) (right : ℕ) (right_is : right ≡ right_at links node) (inRight : ℕ)
            (in_right : inRight ≡ first_deep links (levels - 1) right) where
          -- else that of its right one
          pub deep_right : inRight ≤ right → first_deep links levels node ≡ inRight
          deep_right h = opened ∙ rw (kind) (rw (← left_is, ← in_left, lt-leb inLeft left none, ← right_is, ← in_right, le-leb inRight right h))

          -- else none
          pub deep_nowhere : right < inRight → first_deep links levels node ≡ node + 1
          deep_nowhere h = opened ∙ rw (kind) (rw (← left_is, ← in_left, lt-leb inLeft left none, ← right_is, ← in_right, lt-leb inRight right h))
