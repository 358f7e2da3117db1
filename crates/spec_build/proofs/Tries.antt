-- The tries only bring a slice into another order. Where the rule cuts a sorted slice inside, they do.
use mathlib.Core.Path.{◌≡◌, refl}
use mathlib.Core.List.{List, [], ◌∷◌, map, Permᴰ}
use Prim.Native.Nat.{ℕ, ◌<◌}
use native.Mathlib.Omega.{arith}
use lib.ListN.{length}
use lib.Ieee.{Float, Format}
use lib.Ieee.Bits.{is_true, is_false}
use Rattle.spec_numbers.specs.Axes.{Axis}
use Rattle.spec_numbers.specs.Values.{Number}
use Rattle.spec_numbers.proofs.Tests.{passed, failed}
use Rattle.spec_numbers.proofs.Order.{transitive, lt→le, not_lt→le, le→not_lt, lt_le_transitive}
use Rattle.spec_shapes.specs.Boxes.{Box}
use Rattle.spec_tree.specs.Trees.{joined}
use Rattle.spec_tables.specs.Each.{Each}
use Rattle.spec_sort.specs.Sort.{Sorted, Ordered}
use Rattle.spec_splits.specs.Splits.{Split, cut_at, nowhere}
use Rattle.spec_build.specs.Grown.{Tried, cut, uncut, slice_of, CutInside, Trying}
use Rattle.spec_build.specs.Tries.{rule, split_as, or_else, centre_on, is_before, sorted_on, ruled, tried_on, tried_in, tried_within, tried}
use Rattle.spec_tree.proofs.Order.{permuted_length}
use Rattle.spec_tables.proofs.Each.{each_permuted, each_weaker}
use Rattle.spec_sort.proofs.Permutes.{sorted_permutes}
use Rattle.spec_sort.proofs.Merges.{sorted_is_sorted}

-- the rule's answer leaves the slice as it is
pub split_slice : (slice : List ℕ) (s : Split) → slice_of (split_as slice s) ≡ slice
split_slice slice (cut_at k) = refl
split_slice slice nowhere = refl

or_else_permutes : (next : List ℕ → Tried) → ((slice : List ℕ) → Permᴰ (slice_of (next slice)) slice) → (r : Tried)
    → Permᴰ (slice_of (or_else next r)) (slice_of r)
or_else_permutes next p (cut slice k) = mathlib.Core.List.Permᴰ.refl slice
or_else_permutes next p (uncut slice) = p slice

module _ (f : Format) (box_at : ℕ → Box) where
  -- by their centres on an axis, the triangles whose centres are numbers are ordered
  centres_ordered : (axis : Axis) → Ordered (is_before f box_at axis) (λ t. Number (centre_on f box_at axis t))
  centres_ordered axis = record {
    asymmetric = λ a b h. is_false _ (le→not_lt (key a) (key b) (lt→le (key a) (key b) (passed h)));
    transitive = λ a b c h k. is_true _ (lt_le_transitive (key a) (key b) (key c) (passed h) (lt→le (key b) (key c) (passed k)));
    not_before_transitive = λ a b c ka kb kc h k.
        is_false _ (le→not_lt (key c) (key a)
        (transitive (key c) (key b) (key a) (not_lt→le (key b) (key c) kb kc (failed k)) (not_lt→le (key a) (key b) ka kb (failed h))));
  }
    where
      key : ℕ → Float
      key t = centre_on f box_at axis t

  module _ (strategy : ℕ) where
    -- ---- only another order
    -- a try on one axis only brings the slice into another order
    pub tried_on_permutes : (axis : Axis) (parent : Box) (slice : List ℕ) → Permᴰ (slice_of (tried_on f box_at strategy axis parent slice)) slice
    unfolding tried_on
    tried_on_permutes axis parent slice =
        rw (split_slice (sorted_on f box_at axis slice) (rule f strategy axis parent (map box_at (sorted_on f box_at axis slice))))
        (sorted_permutes (is_before f box_at axis) slice)

    tried_in_permutes : (axes : List Axis) (parent : Box) (slice : List ℕ) → Permᴰ (slice_of (tried_in f box_at strategy axes parent slice)) slice
    unfolding tried_in
    tried_in_permutes [] parent slice = mathlib.Core.List.Permᴰ.refl slice
    tried_in_permutes (axis ∷ axes) parent slice =
        mathlib.Core.List.Permᴰ.trans
        (or_else_permutes (tried_in f box_at strategy axes parent) (tried_in_permutes axes parent) (tried_on f box_at strategy axis parent slice))
        (tried_on_permutes axis parent slice)

    -- the tries on all axes only bring the slice into another order
    pub tried_permutes : (slice : List ℕ) → Permᴰ (slice_of (tried f box_at strategy slice)) slice
    unfolding tried tried_within
    tried_permutes slice = tried_in_permutes _ (joined box_at slice) slice

    -- ---- inside
    module _ (Used : ℕ → Type 0) (centred : (axis : Axis) (t : ℕ) → Used t → Number (centre_on f box_at axis t))
        (rule_inside : (axis : Axis) (parent : Box) (slice : List ℕ) → 1 < length slice → Each Used slice → Sorted (is_before f box_at axis) slice
        → CutInside (ruled f box_at strategy axis parent slice)) where
      tried_on_inside : (axis : Axis) (parent : Box) (slice : List ℕ) → 1 < length slice → Each Used slice
          → CutInside (tried_on f box_at strategy axis parent slice)
      unfolding tried_on
      tried_on_inside axis parent slice w u =
          let p : Permᴰ (sorted_on f box_at axis slice) slice = sorted_permutes (is_before f box_at axis) slice in
          let numbers : Each (λ t. Number (centre_on f box_at axis t)) slice = each_weaker Used _ (centred axis) slice u in
          rule_inside axis parent (sorted_on f box_at axis slice) (omega (arith, permuted_length p)) (each_permuted Used (mathlib.Core.List.Permᴰ.symm p) u)
          (sorted_is_sorted (centres_ordered axis) slice numbers)

      or_else_inside : (next : List ℕ → Tried) → ((slice : List ℕ) → 1 < length slice → Each Used slice → CutInside (next slice))
          → (r : Tried) → 1 < length (slice_of r) → Each Used (slice_of r) → CutInside r → CutInside (or_else next r)
      or_else_inside next p (cut slice k) w u i = i
      or_else_inside next p (uncut slice) w u i = p slice w u

      tried_in_inside : (axes : List Axis) (parent : Box) (slice : List ℕ) → 1 < length slice → Each Used slice
          → CutInside (tried_in f box_at strategy axes parent slice)
      unfolding tried_in
      tried_in_inside [] parent slice w u = tt
      tried_in_inside (axis ∷ axes) parent slice w u =
          let p = tried_on_permutes axis parent slice in
          or_else_inside (tried_in f box_at strategy axes parent) (tried_in_inside axes parent) (tried_on f box_at strategy axis parent slice)
          (omega (arith, permuted_length p)) (each_permuted Used (mathlib.Core.List.Permᴰ.symm p) u) (tried_on_inside axis parent slice w u)

      -- the tries are what the laws of growing need, where the rule cuts sorted slices inside
      pub tried_trying : Trying (tried f box_at strategy) Used
      unfolding tried tried_within
      tried_trying = record { permutes = tried_permutes; inside = λ slice w u. tried_in_inside _ (joined box_at slice) slice w u }
