-- What a refusal says, worked out: its number and place for a list or a setting of each kind; and how a point and a triangle are read.
use mathlib.Core.Path.{◌≡◌, refl}
use mathlib.Core.Bool.{true, false}
use mathlib.Core.List.{List, [], ◌∷◌}
use Prim.Native.Nat.{ℕ, ◌+◌, ◌*◌}
use lib.IntN.{pos, negsuc}
use lib.Ieee.{Float, nan, fin, le}
use Rattle.spec_shapes.specs.Points.{Point}
use Rattle.spec_lists.specs.Reading.{number_at, point_at, triangle_at, triangle_count}
use Rattle.spec_lists.specs.Refusals.{passes, refused, first_refusal, is_coordinate, is_distance, first_bad, coordinate_refusal, room_refusal, distance_refusal, is_scale, scale_refusal}
use Rattle.spec_lists.specs.Refusals.{ragged_refusal, none_refusal, too_many_refusal, triangles_refusal, are_settings, settings_refusal, points_refusal}

-- 2 n + 1, which is no zero
abbrev odd : ℕ → Float
odd n = fin false (2 * n + 1) (pos 0)

abbrev nine : List Float
nine = odd 0 ∷ odd 1 ∷ odd 2 ∷ odd 3 ∷ odd 4 ∷ odd 5 ∷ odd 6 ∷ odd 7 ∷ odd 8 ∷ []

-- one number; none; a fifth number that is none; strategy 3; room for one of two; four numbers of points; a second number that is none; no distance;
-- no scale, and one just above the largest; the largest and minus zero pass
pub refusals_worked :
    (triangles_refusal (odd 0 ∷ []) ∷ triangles_refusal [] ∷ triangles_refusal (odd 0 ∷ odd 1 ∷ odd 2 ∷ odd 3 ∷ nan ∷ odd 5 ∷ odd 6 ∷ nan ∷ odd 8 ∷ [])
    ∷ settings_refusal (record { strategy = 3; leaf_minimum = 1; maximum_depth = 40 }) ∷ room_refusal 1 2
    ∷ points_refusal (odd 0 ∷ odd 1 ∷ odd 2 ∷ odd 3 ∷ []) ∷ points_refusal (odd 0 ∷ nan ∷ odd 2 ∷ []) ∷ distance_refusal nan
    ∷ scale_refusal nan ∷ scale_refusal (fin false 16384001 (negsuc 13)) ∷ scale_refusal (fin false 125 (pos 3)) ∷ scale_refusal (fin true 0 (pos 0)) ∷ [])
    ≡ (refused 1 0 ∷ refused 2 0 ∷ refused 4 4 ∷ refused 5 0 ∷ refused 6 0 ∷ refused 8 4 ∷ refused 8 1 ∷ refused 9 0
    ∷ refused 14 0 ∷ refused 14 0 ∷ passes ∷ passes ∷ [])
unfolding le triangle_count first_refusal is_coordinate is_distance first_bad ragged_refusal none_refusal too_many_refusal coordinate_refusal triangles_refusal
    are_settings settings_refusal room_refusal points_refusal distance_refusal scale_refusal is_scale
refusals_worked = refl

abbrev point : ℕ → ℕ → ℕ → Point
point x y z = record { x = odd x; y = odd y; z = odd z }

-- nine different numbers, so that one read in another's place shows
pub reading_worked : (point_at nine 3 ≡ point 3 4 5) × (triangle_at nine 0 ≡ record { a = point 0 1 2; b = point 3 4 5; c = point 6 7 8 })
unfolding number_at point_at triangle_at
reading_worked = (refl, refl)
