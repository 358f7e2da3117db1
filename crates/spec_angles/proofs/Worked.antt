-- Angles worked out: the numerator and the denominator (1,1), (1,-1), (1,0) and (2,-1), and the solid angle of an octant from its corner, which is a
-- quarter turn.
use mathlib.Core.Path.{◌≡◌, refl}
use mathlib.Core.Bool.{false}
use mathlib.Core.List.{[], ◌∷◌}
use Prim.Native.Nat.{ℕ, ◌^◌, ◌-◌}
use lib.IntN.{ℤ, pos, negsuc}
use lib.Ieee.{Format, binary32, binary64, add, sub, mul, div, lt, le, eq, round, of_int}
use Rattle.spec_shapes.specs.Points.{Point, minus, divided_by, dot, cross}
use Rattle.spec_shapes.specs.Triangles.{Triangle}
use Rattle.spec_angles.specs.Root.{whole_root, root_by, root_in, root, root_or_nan}
use Rattle.spec_angles.specs.Table.{arcs, entry}
use Rattle.spec_angles.specs.Angle.{arc, ratio, mirrored, angle, arc_tangent, angle_or_nan, eighth_turn, quarter_turn, half_turn}
use Rattle.spec_angles.specs.Winding.{norm, seen_from, numerator, denominator, unit_angle, origin_angle, solid_angle}

module _ (f : Format) where
  abbrev angle_of : ℤ → ℤ → ℕ
  angle_of n d = angle f (of_int f n) (of_int f d)

  abbrev point : ℤ → ℤ → ℤ → Point
  point x y z = record { x = of_int f x; y = of_int f y; z = of_int f z }

  -- (3,1,1) (1,5,1) (1,1,9), about (1,1,1)
  abbrev octant : Triangle
  octant = record { a = point (pos 3) (pos 1) (pos 1); b = point (pos 1) (pos 5) (pos 1); c = point (pos 1) (pos 1) (pos 9) }

-- angles in each half and at the turns, worked by hand: an octant swapped or a turn off by one breaks one of them
pub angles_worked : (f : Format)
    → (angle_of f (pos 1) (pos 1) ∷ angle_of f (pos 1) (negsuc 0) ∷ angle_of f (pos 1) (pos 0) ∷ angle_of f (pos 2) (negsuc 0) ∷ [])
    ≡ (eighth_turn ∷ (half_turn - eighth_turn) ∷ quarter_turn ∷ (half_turn - (quarter_turn - entry 512)) ∷ [])
unfolding lt le eq div round of_int entry arcs arc ratio mirrored angle
angles_worked binary32 = refl
angles_worked binary64 = refl

-- three directions at right angles span an eighth of the sphere, whatever their lengths
pub octant_worked : (f : Format) → solid_angle f (octant f) (point f (pos 1) (pos 1) (pos 1)) ≡ mul f (round f false eighth_turn (2 ^ 30)) (of_int f (pos 2))
unfolding add sub mul div lt le eq round of_int minus divided_by dot cross whole_root root_by root_in root root_or_nan entry arcs arc ratio mirrored angle
    arc_tangent angle_or_nan norm seen_from numerator denominator unit_angle origin_angle solid_angle
octant_worked binary32 = refl
octant_worked binary64 = refl
