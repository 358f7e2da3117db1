-- Both rules cut a sorted slice inside, so the tries do, of a slice whose centres are numbers. So no leaf of a tree that is built is empty.
use mathlib.Core.Path.{◌≡◌, refl}
use mathlib.Core.Bool.{Bool, true, false}
use mathlib.Core.List.{List, [], ◌∷◌, map}
use Prim.Native.Nat.{ℕ, ◌<◌, ◌≤◌}
use native.Mathlib.Omega.{arith}
use lib.Dec.{eqb}
use lib.ListN.{length, length-map}
use lib.Ieee.{Format}
use Rattle.spec_numbers.specs.Values.{Number}
use Rattle.spec_numbers.specs.Axes.{Axis}
use Rattle.spec_shapes.specs.Boxes.{Box}
use Rattle.spec_tables.specs.Each.{Each}
use Rattle.spec_sort.specs.Sort.{Sorted}
use Rattle.spec_splits.specs.Splits.{Split, cut_at, nowhere, CutsInside, NoneBelow, FirstIsLeast}
use Rattle.spec_splits.proofs.Inside.{median_inside, area_inside}
use Rattle.spec_build.specs.Grown.{CutInside, Trying}
use Rattle.spec_build.specs.Tries.{rule_by, rule, split_as, centre_on, is_before, ruled, tried}
use Rattle.spec_build.proofs.Tries.{tried_trying}

module _ (f : Format) (box_at : ℕ → Box) where
  -- on each axis the centre of its box is a number
  abbrev pub HasCentre : ℕ → Type 0
  HasCentre t = (axis : Axis) → Number (centre_on f box_at axis t)

  none_below : (axis : Axis) (t : ℕ) (slice : List ℕ) → Each (λ u. is_before f box_at axis u t ≡ false) slice
      → NoneBelow f axis (centre_on f box_at axis t) (map box_at slice)
  none_below axis t [] h = tt
  none_below axis t (u ∷ slice) h = (h.0, none_below axis t slice h.1)

  first_is_least : (axis : Axis) (slice : List ℕ) → Sorted (is_before f box_at axis) slice → FirstIsLeast f axis (map box_at slice)
  first_is_least axis [] h = tt
  first_is_least axis (t ∷ slice) h = none_below axis t slice h.0

  rules_inside : (median : Bool) (axis : Axis) (parent : Box) (bs : List Box) (k : ℕ) → 2 ≤ length bs → FirstIsLeast f axis bs
      → rule_by median f axis parent bs ≡ cut_at k → CutsInside k (length bs)
  rules_inside true axis parent bs k w h e = median_inside f axis parent bs k w e
  rules_inside false axis parent bs k w h e = area_inside f axis parent bs k h e

  split_inside : (slice : List ℕ) (s : Split) → ((k : ℕ) → s ≡ cut_at k → CutsInside k (length slice)) → CutInside (split_as slice s)
  split_inside slice (cut_at k) h = let i = h k refl in (i.after_first, i.before_end)
  split_inside slice nowhere h = tt

  rule_inside : (strategy : ℕ) (axis : Axis) (parent : Box) (slice : List ℕ) → 1 < length slice → Sorted (is_before f box_at axis) slice
      → CutInside (ruled f box_at strategy axis parent slice)
  unfolding rule
  rule_inside strategy axis parent slice w s =
      let same : length (map box_at slice) ≡ length slice = length-map slice box_at in
      split_inside slice (rule_by (eqb strategy 1) f axis parent (map box_at slice))
      (λ k e. rw same at (rules_inside (eqb strategy 1) axis parent (map box_at slice) k (omega arith) (first_is_least axis slice s) e))

  -- by either strategy the tries only bring a slice into another order, and cut it inside
  pub tries_inside : (strategy : ℕ) → Trying (tried f box_at strategy) HasCentre
  tries_inside strategy = tried_trying f box_at strategy HasCentre (λ axis t h. h axis) (λ axis parent slice w u s. rule_inside strategy axis parent slice w s)
