-- Two tables that give the triangles of a slice the same boxes give the slice the same tree, and the tree the same boxes: so the program may build
-- from its table of boxes in place of the triangles.
use mathlib.Core.Path.{◌≡◌, refl, ap, ap₂, ◌∙◌}
use mathlib.Core.Bool.{Bool, true, false}
use mathlib.Core.List.Permᴰ
use mathlib.Core.List.{List, [], ◌∷◌, map, Permᴰ}
use Prim.Native.Nat.{ℕ, zero, suc, ◌<◌}
use native.Mathlib.Omega.{arith}
use borrow.Author.Tests.{leb-false}
use lib.Dec.{leb}
use lib.ListN.{length, take, drop}
use lib.Ieee.{Format, lt}
use Rattle.spec_numbers.specs.Axes.{Axis}
use Rattle.spec_shapes.specs.Points.{on}
use Rattle.spec_shapes.specs.Boxes.{Box, union, centre, sizes}
use Rattle.spec_tree.specs.Trees.{Tree, leaf, branch, numbers, Filled, joined_to, joined, box_over, six_of, boxes_of}
use Rattle.spec_tables.specs.Each.{Each}
use Rattle.spec_sort.specs.Sort.{inserted, sorted}
use Rattle.spec_build.specs.Grown.{Tried, cut, uncut, slice_of, parted, grown_by, grown}
use Rattle.spec_build.specs.Tries.{axes_by_size, rule, split_as, or_else, centre_on, is_before, sorted_on, tried_on, tried_in, tried_within, tried}
use Rattle.spec_tables.proofs.Each.{each_take, each_drop, each_permuted, each_in_front, each_behind}
use Rattle.spec_sort.proofs.Permutes.{each_sorted}
use Rattle.spec_build.proofs.Tries.{tried_on_permutes, tried_permutes}

-- ---- sorting by orders that agree
module _ (before before' : ℕ → ℕ → Bool) (Used : ℕ → Type 0) (agree : (a b : ℕ) → Used a → Used b → before a b ≡ before' a b) where
  inserted_alike : (x : ℕ) (ys : List ℕ) → Used x → Each Used ys → inserted before x ys ≡ inserted before' x ys
  unfolding inserted
  inserted_alike x [] u v = refl
  inserted_alike x (y ∷ ys) u v = rw (agree y x v.0 u, inserted_alike x ys u v.1)

  -- orders that agree on the entries of a slice sort it alike
  pub sorted_alike : (xs : List ℕ) → Each Used xs → sorted before xs ≡ sorted before' xs
  unfolding sorted
  sorted_alike [] u = refl
  sorted_alike (x ∷ xs) u =
      inserted_alike x (sorted before xs) u.0 (each_sorted before Used xs u.1) ∙ ap (inserted before' x) (sorted_alike xs u.1)

-- ---- growing by tries that agree
module _ (try try' : List ℕ → Tried) (Used : ℕ → Type 0) (permutes : (slice : List ℕ) → Permᴰ (slice_of (try slice)) slice)
    (agree : (slice : List ℕ) → 0 < length slice → Each Used slice → try slice ≡ try' slice) (leaf_minimum : ℕ) where
  parted_alike : (below below' : List ℕ → Tree) → ((slice : List ℕ) → Each Used slice → below slice ≡ below' slice)
      → (r : Tried) → Each Used (slice_of r) → parted below r ≡ parted below' r
  parted_alike below below' e (cut slice k) u = ap₂ branch (e (take k slice) (each_take Used k slice u)) (e (drop k slice) (each_drop Used k slice u))
  parted_alike below below' e (uncut slice) u = refl

  grown_alike : (remaining : ℕ) (slice : List ℕ) → Each Used slice → grown try leaf_minimum remaining slice ≡ grown try' leaf_minimum remaining slice
  unfolding grown
  grown_alike zero slice u = refl
  grown_alike (suc remaining) slice u = at (leb (length slice) leaf_minimum) refl (grown_alike remaining)
    where
      at : (b : Bool) → leb (length slice) leaf_minimum ≡ b
          → ((p : List ℕ) → Each Used p → grown try leaf_minimum remaining p ≡ grown try' leaf_minimum remaining p)
          → grown_by b try (grown try leaf_minimum remaining) slice ≡ grown_by b try' (grown try' leaf_minimum remaining) slice
      at true w e = refl
      at false w e =
          parted_alike (grown try leaf_minimum remaining) (grown try' leaf_minimum remaining) e (try slice) (each_permuted Used (Permᴰ.symm (permutes slice)) u)
          ∙ ap (parted (grown try' leaf_minimum remaining)) (agree slice (omega (arith, leb-false (length slice) leaf_minimum w)) u)

-- ---- the same boxes
module _ (box_at boxAt' : ℕ → Box) where
  -- the triangle has one box in both
  abbrev pub Alike : ℕ → Type 0
  Alike t = box_at t ≡ boxAt' t

  boxes_alike : (slice : List ℕ) → Each Alike slice → map box_at slice ≡ map boxAt' slice
  boxes_alike [] u = refl
  boxes_alike (t ∷ slice) u = ap₂ (λ (b : Box) (bs : List Box). b ∷ bs) u.0 (boxes_alike slice u.1)

  joined_to_alike : (b : Box) (slice : List ℕ) → Each Alike slice → joined_to box_at b slice ≡ joined_to boxAt' b slice
  unfolding joined_to
  joined_to_alike b [] u = refl
  joined_to_alike b (t ∷ slice) u = joined_to_alike (union b (box_at t)) slice u.1 ∙ ap (λ (c : Box). joined_to boxAt' (union b c) slice) u.0

  joined_alike : (slice : List ℕ) → 0 < length slice → Each Alike slice → joined box_at slice ≡ joined boxAt' slice
  unfolding joined
  joined_alike [] w u = absurd (omega arith)
  joined_alike (t ∷ slice) w u = joined_to_alike (box_at t) slice u.1 ∙ ap (λ (b : Box). joined_to boxAt' b slice) u.0

  over_alike : (t : Tree) → Filled t → Each Alike (numbers t) → box_over box_at t ≡ box_over boxAt' t
  unfolding box_over numbers
  over_alike (leaf slice) w u = joined_alike slice w u
  over_alike (branch l r) w u =
      ap₂ union (over_alike l w.0 (each_in_front Alike (numbers l) (numbers r) u)) (over_alike r w.1 (each_behind Alike (numbers l) (numbers r) u))

  -- tables that agree on a tree's triangles give the tree the same list of boxes
  pub listed_boxes_alike : (t : Tree) → Filled t → Each Alike (numbers t) → boxes_of box_at t ≡ boxes_of boxAt' t
  unfolding boxes_of numbers box_over
  listed_boxes_alike (leaf slice) w u = ap six_of (joined_alike slice w u)
  listed_boxes_alike (branch l r) w u =
      let left : Each Alike (numbers l) = each_in_front Alike (numbers l) (numbers r) u in
      let right : Each Alike (numbers r) = each_behind Alike (numbers l) (numbers r) u in
      rw (listed_boxes_alike l w.0 left, listed_boxes_alike r w.1 right, over_alike l w.0 left, over_alike r w.1 right)

  module _ (f : Format) (strategy : ℕ) where
    centre_alike : (axis : Axis) (t : ℕ) → Alike t → centre_on f box_at axis t ≡ centre_on f boxAt' axis t
    centre_alike axis t e = ap (λ (b : Box). on axis (centre f b)) e

    sorted_on_alike : (axis : Axis) (slice : List ℕ) → Each Alike slice → sorted_on f box_at axis slice ≡ sorted_on f boxAt' axis slice
    sorted_on_alike axis slice u =
        sorted_alike (is_before f box_at axis) (is_before f boxAt' axis) Alike (λ a b p q. ap₂ lt (centre_alike axis a p) (centre_alike axis b q)) slice u

    tried_on_alike : (axis : Axis) (parent : Box) (slice : List ℕ) → Each Alike slice
        → tried_on f box_at strategy axis parent slice ≡ tried_on f boxAt' strategy axis parent slice
    unfolding tried_on
    tried_on_alike axis parent slice u =
        let p : Each Alike (sorted_on f box_at axis slice) = each_sorted (is_before f box_at axis) Alike slice u in
        ap (λ (bs : List Box). split_as (sorted_on f box_at axis slice) (rule f strategy axis parent bs)) (boxes_alike (sorted_on f box_at axis slice) p)
        ∙ ap (λ (s : List ℕ). split_as s (rule f strategy axis parent (map boxAt' s))) (sorted_on_alike axis slice u)

    or_else_alike : (next next' : List ℕ → Tried) → ((slice : List ℕ) → Each Alike slice → next slice ≡ next' slice) → (r : Tried) → Each Alike (slice_of r)
        → or_else next r ≡ or_else next' r
    or_else_alike next next' e (cut slice k) u = refl
    or_else_alike next next' e (uncut slice) u = e slice u

    tried_in_alike : (axes : List Axis) (parent : Box) (slice : List ℕ) → Each Alike slice
        → tried_in f box_at strategy axes parent slice ≡ tried_in f boxAt' strategy axes parent slice
    unfolding tried_in
    tried_in_alike [] parent slice u = refl
    tried_in_alike (axis ∷ axes) parent slice u =
        or_else_alike (tried_in f box_at strategy axes parent) (tried_in f boxAt' strategy axes parent) (tried_in_alike axes parent)
        (tried_on f box_at strategy axis parent slice)
        (each_permuted Alike (Permᴰ.symm (tried_on_permutes f box_at strategy axis parent slice)) u)
        ∙ ap (or_else (tried_in f boxAt' strategy axes parent)) (tried_on_alike axis parent slice u)

    tried_alike : (slice : List ℕ) → 0 < length slice → Each Alike slice → tried f box_at strategy slice ≡ tried f boxAt' strategy slice
    unfolding tried tried_within
    tried_alike slice w u =
        tried_in_alike (axes_by_size (λ axis. on axis (sizes f (joined box_at slice)))) (joined box_at slice) slice u
        ∙ ap (λ (b : Box). tried_in f boxAt' strategy (axes_by_size (λ axis. on axis (sizes f b))) b slice) (joined_alike slice w u)

    -- tables that agree on a slice's triangles grow the same tree from it
    pub tree_alike : (leaf_minimum remaining : ℕ) (slice : List ℕ) → Each Alike slice
        → grown (tried f box_at strategy) leaf_minimum remaining slice ≡ grown (tried f boxAt' strategy) leaf_minimum remaining slice
    tree_alike leaf_minimum remaining slice u =
        grown_alike (tried f box_at strategy) (tried f boxAt' strategy) Alike (tried_permutes f box_at strategy) tried_alike leaf_minimum remaining slice u
