-- Far terms worked out in exact fractions, each operation rounded once, and compared as bit patterns; and where a point begins to be far.
use mathlib.Core.Path.{◌≡◌, refl}
use mathlib.Core.Bool.{false, true}
use mathlib.Core.List.{[], ◌∷◌}
use lib.IntN.{ℤ, pos, negsuc}
use lib.Ieee.{binary32, add, sub, mul, div, lt, round, of_int, of_bits}
use Rattle.spec_shapes.specs.Points.{Point, minus, scale, divided_by, dot}
use Rattle.spec_angles.specs.Root.{whole_root, root_by, root_in, root, root_or_nan}
use Rattle.spec_angles.specs.Winding.{norm}
use Rattle.spec_dipoles.specs.Matrices.{zeros, outer, over, less, identity_times, down_column, dot_of}
use Rattle.spec_dipoles.specs.Sums.{Dipole}
use Rattle.spec_dipoles.specs.Far.{is_far, second_by, term_by, far_term}

-- a point with whole coordinates
abbrev pub point : ℤ → ℤ → ℤ → Point
point x y z = record { x = of_int binary32 x; y = of_int binary32 y; z = of_int binary32 z }

-- first order (1,0,0), no second order, radius 1, about the origin
abbrev plain : Dipole
plain = record { first = point (pos 1) (pos 0) (pos 0); second = zeros; radius = of_int binary32 (pos 1); centre = point (pos 0) (pos 0) (pos 0) }

-- first order (1,2,3), second order 1 to 9 by columns, about (1,2,3)
abbrev full : Dipole
full = record {
  first = point (pos 1) (pos 2) (pos 3);
  second = record { x = point (pos 1) (pos 2) (pos 3); y = point (pos 4) (pos 5) (pos 6); z = point (pos 7) (pos 8) (pos 9) };
  radius = of_int binary32 (pos 1);
  centre = point (pos 1) (pos 2) (pos 3);
}

-- the point (-2,0,0), from which r is (2,0,0)
abbrev aside : Point
aside = point (negsuc 1) (pos 0) (pos 0)

-- the first order alone: 2 over 4 PI times 8; r turned round has the other sign
pub first_order_worked : far_term binary32 plain aside ≡ of_bits binary32 0x3ca2_f983
unfolding add sub mul div round of_int of_bits minus scale divided_by dot whole_root root_by root_in root root_or_nan norm zeros outer over less identity_times
    down_column dot_of second_by term_by far_term
first_order_worked = refl

-- both orders, for r = (1,2,2): about 0.0324 - 0.0982
pub both_orders_worked : far_term binary32 full (point (pos 0) (pos 0) (pos 1)) ≡ of_bits binary32 0xbd86_ce62
unfolding add sub mul div round of_int of_bits minus scale divided_by dot whole_root root_by root_in root root_or_nan norm zeros outer over less identity_times
    down_column dot_of second_by term_by far_term
both_orders_worked = refl

-- at a distance of radius times scale a point is not far yet, and with a scale that is one step smaller it is
pub far_worked : (is_far binary32 plain (of_bits binary32 0x4000_0000) aside ∷ is_far binary32 plain (of_bits binary32 0x3fff_ffff) aside ∷ [])
    ≡ (false ∷ true ∷ [])
unfolding add sub mul lt round of_int of_bits minus dot whole_root root_by root_in root root_or_nan norm is_far
far_worked = refl
