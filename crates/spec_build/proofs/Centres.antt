-- The centre of a box with finite corners is a number on each axis, so that triangles can be sorted by it.
use mathlib.Core.Bool.{Bool, true, false}
use Prim.Native.Nat.{ℕ, ◌*◌, ◌<◌}
use native.Mathlib.Nat.{mul-pos, zero-lt-suc}
use lib.IntN.{pos}
use lib.Ieee.{Float, inf, fin, Format, is_nan, up, down, unlike, round, div, nan}
use lib.Ieee.Fits.{up_pos, down_pos}
use Rattle.spec_numbers.specs.Values.{two, Number}
use Rattle.spec_numbers.specs.Axes.{Axis, X, Y, Z}
use Rattle.spec_numbers.proofs.Order.{number_left, number_right}
use Rattle.spec_numbers.proofs.Rounding.{round_not_below, round_not_above}
use Rattle.spec_numbers.proofs.Sum.{add_number}
use Rattle.spec_shapes.specs.Points.{on, plus, divided_by}
use Rattle.spec_shapes.specs.Boxes.{Box, centre, Proper}

round_number : (f : Format) (s : Bool) (a c : ℕ) → 0 < c → Number (round f s a c)
round_number f true a c h = number_left (round f true a c) _ (round_not_above f a c h)
round_number f false a c h = number_right _ (round f false a c) (round_not_below f a c h)

half_number : (f : Format) (x : Float) → Number x → Number (div f x two)
unfolding div is_nan
half_number f (inf s) h = tt
half_number f (fin s m e) h =
    round_number f (unlike s false) (m * up e * down (pos 1)) (1 * up (pos 1) * down e) (mul-pos (mul-pos (zero-lt-suc 0) (up_pos (pos 1))) (down_pos e))
half_number f nan h = elim h [ ]

-- a box with finite corners has a centre that is no NaN, on each axis: the sort has keys to compare
pub centre_number : (f : Format) (b : Box) → Proper b → (axis : Axis) → Number (on axis (centre f b))
unfolding centre divided_by plus
centre_number f b h X = half_number f _ (add_number f b.min.x b.max.x (h.min X) (h.max X))
centre_number f b h Y = half_number f _ (add_number f b.min.y b.max.y (h.min Y) (h.max Y))
centre_number f b h Z = half_number f _ (add_number f b.min.z b.max.z (h.min Z) (h.max Z))
