-- A slice, tried, over plain lists: what the sort and the rule need of it, what they give, and the tries in turn.
use mathlib.Core.Path.{◌≡◌, refl, sym, ap, ap₂, subst, ◌∙◌}
use mathlib.Core.List.Permᴰ
use mathlib.Core.List.{List, [], ◌∷◌, map, Permᴰ}
use Prim.Native.Nat.{ℕ, ◌<◌}
use native.Mathlib.Omega.{arith}
use lib.ListN.{length}
use lib.Ieee.{Float, Format, lt}
use Rattle.spec_numbers.specs.Axes.{Axis}
use Rattle.spec_shapes.specs.Points.{on}
use Rattle.spec_shapes.specs.Boxes.{Box, sizes}
use Rattle.spec_tables.specs.Each.{Each}
use Rattle.spec_sort.specs.Sort.{Keyed, by_key, sorted}
use Rattle.spec_splits.specs.Splits.{Split, cut_at, nowhere, box_in, union_of}
use Rattle.spec_tree.proofs.Order.{permuted_length}
use Rattle.spec_tables.proofs.Each.{each_weaker, each_at, each_permuted}
use Rattle.spec_sort.proofs.Permutes.{sorted_permutes}
use Rattle.spec_build.specs.Grown.{Tried, cut, uncut, slice_of}
use Rattle.spec_build.specs.Tries.{axes_by_size, rule, split_as, or_else, is_before, sorted_on, tried_on, tried_in, tried_within, tried}
use Rattle.spec_build.specs.Growing.{keys_on, Tabled, SortNeeds, RuleNeeds, Triable}
use Rattle.spec_build.proofs.Tabling.{keys_long}
use Rattle.spec_build.proofs.Tries.{split_slice, tried_on_permutes}
use Rattle.spec_build.proofs.Alike.{sorted_alike}
use Rattle.spec_build.proofs.Boxes.{union_is_joined}

module _ (f : Format) (bounds centres : List Float) where
  -- ---- sorting
  module _ (axis : Axis) where
    tabled_keyed : (t : ℕ) → Tabled f bounds centres t → Keyed (keys_on axis centres) t
    tabled_keyed t h = record { within = omega (arith, h.few, keys_long axis centres _ _ refl refl); number = rw (h.centre_is axis) (h.centred axis) }

  sorted_as_defined : (axis : Axis) (slice : List ℕ) → Each (Tabled f bounds centres) slice
      → sorted (by_key (keys_on axis centres)) slice ≡ sorted_on f (box_in bounds) axis slice
  unfolding by_key
  sorted_as_defined axis slice u =
      sorted_alike (by_key (keys_on axis centres)) (is_before f (box_in bounds) axis) (Tabled f bounds centres)
      (λ a b p q. ap₂ lt (p.centre_is axis) (q.centre_is axis)) slice u

  module _ {slice scratch : List ℕ} (h : Triable f bounds centres slice scratch) where
    -- needs of the sort, of a slice that may be tried
    pub try_sort_needs : (axis : Axis) → SortNeeds axis centres slice scratch
    try_sort_needs axis = record { keyed = each_weaker _ _ (tabled_keyed axis) slice h.tabled; room = h.room }

    -- in any other order it may be tried again
    triable_again : (slice' scratch' : List ℕ) → Permᴰ slice' slice → length scratch' ≡ length scratch → Triable f bounds centres slice' scratch'
    triable_again slice' scratch' p e =
        let same : length slice' ≡ length slice = permuted_length p in
        record {
          tabled = each_permuted (Tabled f bounds centres) (Permᴰ.symm p) h.tabled;
          some = omega (arith, h.some);
          few = omega (arith, h.few);
          room = omega (arith, h.room);
        }

    -- needs of the rule, of a slice that may be tried
    pub try_rule_needs : RuleNeeds f bounds slice
    try_rule_needs = record {
      boxed = record {
        in_table = λ i k. (each_at (Tabled f bounds centres) slice i 0 k h.tabled).in_table;
        plain = λ i k. (each_at (Tabled f bounds centres) slice i 0 k h.tabled).plain;
      };
      some = h.some;
      few = h.few;
    }

    -- after a try that failed, the slice may be tried on the next axis
    pub next_needs : (strategy : ℕ) (axis : Axis) (parent : Box) (slice' scratch' : List ℕ) (split : Split)
        → split_as slice' split ≡ tried_on f (box_in bounds) strategy axis parent slice → length scratch' ≡ length scratch
        → Triable f bounds centres slice' scratch'
    next_needs strategy axis parent slice' scratch' split e same =
        triable_again slice' scratch' (subst (λ (l : List ℕ). Permᴰ l slice) (sym (ap slice_of e) ∙ split_slice slice' split)
        (tried_on_permutes f (box_in bounds) strategy axis parent slice)) same

    module _ (strategy : ℕ) (axis : Axis) (parent : Box) (slice' : List ℕ) (sorted-is : slice' ≡ sorted (by_key (keys_on axis centres)) slice) where
      -- a slice that was sorted may still be tried
      pub try_sorted : Triable f bounds centres slice' scratch
      try_sorted = triable_again slice' scratch (rw sorted-is (sorted_permutes (by_key (keys_on axis centres)) slice)) refl

      -- sorting by the table's centres and then asking the rule is the try as defined
      pub try_gives : (split : Split) → split ≡ rule f strategy axis parent (map (box_in bounds) slice')
          → split_as slice' split ≡ tried_on f (box_in bounds) strategy axis parent slice
      unfolding tried_on
      try_gives split e =
          ap (split_as slice') e
          ∙ ap (λ (s : List ℕ). split_as s (rule f strategy axis parent (map (box_in bounds) s))) (sorted-is ∙ sorted_as_defined axis slice h.tabled)

-- ---- the tries in turn
module _ (f : Format) (box_at : ℕ → Box) (strategy : ℕ) (parent : Box) where
  -- a try that cuts ends the tries
  pub stays_cut : (axis : Axis) (axes : List Axis) (slice slice' : List ℕ) (split : Split) (k : ℕ) → split ≡ cut_at k
      → split_as slice' split ≡ tried_on f box_at strategy axis parent slice
      → cut slice' k ≡ tried_in f box_at strategy (axis ∷ axes) parent slice
  unfolding tried_in
  stays_cut axis axes slice slice' split k s e = ap (or_else (tried_in f box_at strategy axes parent)) (ap (split_as slice') (sym s) ∙ e)

  -- a try that fails leaves its order to the next axis
  pub tries_next : (axis : Axis) (axes : List Axis) (slice slice' : List ℕ) (split : Split) (r : Tried) → split ≡ nowhere
      → split_as slice' split ≡ tried_on f box_at strategy axis parent slice
      → r ≡ tried_in f box_at strategy axes parent slice' → r ≡ tried_in f box_at strategy (axis ∷ axes) parent slice
  unfolding tried_in
  tries_next axis axes slice slice' split r s e h = h ∙ ap (or_else (tried_in f box_at strategy axes parent)) (ap (split_as slice') (sym s) ∙ e)

  -- on the last axis a try's answer is the answer of the tries
  pub tries_last : (axis : Axis) (slice : List ℕ) (r : Tried) → r ≡ tried_on f box_at strategy axis parent slice
      → r ≡ tried_in f box_at strategy (axis ∷ []) parent slice
  unfolding tried_in
  tries_last axis slice (cut slice' k) e = ap (or_else (tried_in f box_at strategy [] parent)) e
  tries_last axis slice (uncut slice') e = ap (or_else (tried_in f box_at strategy [] parent)) e

  -- on the axes by size, the largest first, the tries are those within the parent's box
  pub in_turn_lem : (axes : List Axis) (slice : List ℕ) (r : Tried) → axes ≡ axes_by_size (λ axis. on axis (sizes f parent))
      → r ≡ tried_in f box_at strategy axes parent slice → r ≡ tried_within f box_at strategy parent slice
  unfolding tried_within
  in_turn_lem axes slice r e h = h ∙ ap (λ (l : List Axis). tried_in f box_at strategy l parent slice) e

-- within the union of its boxes, the tries of a slice are the tries as defined
pub tried_is : (f : Format) (box_at : ℕ → Box) (strategy : ℕ) (slice : List ℕ) (parent : Box) (r : Tried) → 0 < length slice
    → parent ≡ union_of f (map box_at slice) → r ≡ tried_within f box_at strategy parent slice
    → r ≡ tried f box_at strategy slice
unfolding tried
tried_is f box_at strategy slice parent r w e h = h ∙ ap (λ (b : Box). tried_within f box_at strategy b slice) (e ∙ union_is_joined f box_at slice w)
