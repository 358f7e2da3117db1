-- The median rule: cut at count / 2. It fails if every box meets the plane at the mean of the two neighbouring centres,
-- or if both child volumes over the parent's exceed 0.8.
use Rattle.std.specs.Prelude.{Bool, true, false, cond, ◌&&◌, List, [], ◌∷◌, ℕ, ◌-◌, ◌/◌, pos, negsuc, length, get_or, take, drop, Float}
use Rattle.std.specs.Float.{Format, fin}
use Rattle.std.specs.Float.Ieee.{add, mul, div, lt}
use Rattle.spec_numbers.specs.Axes.{Axis}
use Rattle.spec_shapes.specs.Points.{on}
use Rattle.spec_shapes.specs.Boxes.{Box, empty, centre, volume}
use Rattle.spec_shapes.specs.Planes.{Plane, unit, meets_box}
use Rattle.spec_splits.specs.Splits.{Split, cut_at, nowhere, union_of}

abbrev pub half : Float
half = fin false 1 (negsuc 0)

-- 0.8: the number of the format that is nearest to it
abbrev pub four_fifths : Format → Float
four_fifths f = div f (fin false 1 (pos 2)) (fin false 5 (pos 0))

-- the plane across the axis, at the mean of two boxes' centres
unfoldable pub plane_between : Format → Axis → Box → Box → Plane
plane_between f axis above below = record { normal = unit axis; distance = mul f (add f (on axis (centre f above)) (on axis (centre f below))) half }

unfoldable pub all_meet : Format → Plane → List Box → Bool
all_meet f plane [] = true
all_meet f plane (b ∷ bs) = meets_box f plane b && all_meet f plane bs

-- every box meets the plane between the two neighbours of the cut
unfoldable pub all_meet_at : Format → Axis → List Box → ℕ → Bool
all_meet_at f axis bs k = all_meet f (plane_between f axis (get_or bs k (empty f)) (get_or bs (k - 1) (empty f))) bs

-- the volume of the boxes' union over the parent's exceeds 0.8; a NaN does not
unfoldable pub is_large : Format → Box → List Box → Bool
is_large f parent bs = lt (four_fifths f) (div f (volume f (union_of f bs)) (volume f parent))

unfoldable pub are_both_large : Format → Box → List Box → ℕ → Bool
are_both_large f parent bs k = is_large f parent (take k bs) && is_large f parent (drop k bs)

unfoldable pub median_split : Format → Axis → Box → List Box → Split
median_split f axis parent bs =
    let k = length bs / 2 in
    cond (all_meet_at f axis bs k) nowhere
    (cond (are_both_large f parent bs k) nowhere
    (cut_at k))
