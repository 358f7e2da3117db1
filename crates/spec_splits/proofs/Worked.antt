-- The two rules worked out where the laws leave them free: the mean plane, 0.8 and a ratio that is no number, the first of equal costs, a side that
-- is empty, a cost that is no number.
use mathlib.Core.Path.{◌≡◌, refl}
use mathlib.Core.Bool.{true, false}
use mathlib.Core.List.{List, [], ◌∷◌}
use Prim.Native.Nat.{ℕ}
use lib.IntN.{ℤ, pos}
use lib.Ieee.{Format, binary32, binary64, nan, inf, is_nan, add, sub, mul, div, lt, le, eq, round, of_int}
use Rattle.spec_numbers.specs.Axes.{X}
use Rattle.spec_shapes.specs.Points.{Point, minus, plus, divided_by, dot, smallest, largest}
use Rattle.spec_shapes.specs.Boxes.{Box, union, centre, sizes, volume}
use Rattle.spec_shapes.specs.Planes.{unit, reach, meets_box}
use Rattle.spec_splits.specs.Splits.{Split, cut_at, nowhere, union_of}
use Rattle.spec_splits.specs.Median.{plane_between, all_meet, all_meet_at, is_large, are_both_large, median_split}
use Rattle.spec_splits.specs.Buckets.{empty_bucket, with_box}
use Rattle.spec_splits.specs.Area.{cost, none_yet, with_cost, cheapest_of, cut_by}

module _ (f : Format) where
  abbrev point : ℤ → ℤ → ℤ → Point
  point x y z = record { x = of_int f x; y = of_int f y; z = of_int f z }

  -- from x to x', 2 high and as deep as z
  abbrev slab : ℤ → ℤ → ℤ → Box
  slab x x' z = record { min = point x (pos 0) (pos 0); max = point x' (pos 2) z }

  abbrev both : Box → Box → List Box
  both a b = a ∷ b ∷ []

  -- the median rule's cut of two boxes, whose union is the parent
  abbrev cut_of : Box → Box → Split
  cut_of a b = median_split f X (union a b) (both a b)

-- Flat boxes have no volume, and 0 / 0 is not above 0.8: they are cut. So are a long box and a short one beyond the mean of their centres, though a
-- plane at the short one's centre would meet both. Boxes that both reach over the mean are not.
pub median_worked : (f : Format)
    → (cut_of f (slab f (pos 0) (pos 2) (pos 0)) (slab f (pos 8) (pos 10) (pos 0))
    ∷ cut_of f (slab f (pos 0) (pos 16) (pos 1)) (slab f (pos 11) (pos 13) (pos 1))
    ∷ cut_of f (slab f (pos 0) (pos 8) (pos 1)) (slab f (pos 2) (pos 10) (pos 1)) ∷ [])
    ≡ (cut_at 1 ∷ cut_at 1 ∷ nowhere ∷ [])
unfolding add sub mul div lt le eq round of_int minus plus divided_by dot smallest largest union centre sizes volume unit reach meets_box union_of
    plane_between all_meet all_meet_at is_large are_both_large median_split
median_worked binary32 = refl
median_worked binary64 = refl

-- 17 of 20 is above 0.8, 16 of 20 is not, and no number is not
pub large_worked : (f : Format)
    → (is_large f (slab f (pos 0) (pos 20) (pos 1)) (slab f (pos 0) (pos 17) (pos 1) ∷ []) ≡ true)
    × (is_large f (slab f (pos 0) (pos 20) (pos 1)) (slab f (pos 0) (pos 16) (pos 1) ∷ []) ≡ false)
    × (is_large f (slab f (pos 0) (pos 20) (pos 0)) (slab f (pos 0) (pos 20) (pos 0) ∷ []) ≡ false)
unfolding add sub mul div lt le eq round of_int minus smallest largest union sizes volume union_of is_large
large_worked binary32 = (refl, refl, refl)
large_worked binary64 = (refl, refl, refl)

-- the costs 3, 2, 2: the second is the first smallest; and an empty side makes a cut cost more than anything
pub cheapest_worked : (f : Format)
    → ((cheapest_of (of_int f (pos 3) ∷ of_int f (pos 2) ∷ of_int f (pos 2) ∷ [])).index ≡ 1)
    × (cost f (slab f (pos 0) (pos 2) (pos 1)) (with_box (empty_bucket f) (slab f (pos 0) (pos 2) (pos 1))) (empty_bucket f) ≡ inf false)
    × (cost f (slab f (pos 0) (pos 2) (pos 1)) (empty_bucket f) (with_box (empty_bucket f) (slab f (pos 0) (pos 2) (pos 1))) ≡ inf false)
unfolding lt eq round of_int none_yet with_cost cheapest_of cost with_box empty_bucket
cheapest_worked binary32 = (refl, refl, refl)
cheapest_worked binary64 = (refl, refl, refl)

-- where a cost is no number nothing is cut
pub no_number_worked : (f : Format) (bucket : Box → ℕ) (bs : List Box) → cut_by f bucket (cheapest_of (nan ∷ [])) bs ≡ nowhere
unfolding lt is_nan none_yet with_cost cheapest_of cut_by
no_number_worked f bucket bs = refl
