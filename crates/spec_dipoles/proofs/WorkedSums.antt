-- Sums and the dipole of two triangles and one without a normal, worked out by hand in numbers that are exact.
use mathlib.Core.Path.{◌≡◌, refl}
use mathlib.Core.List.{[], ◌∷◌}
use Prim.Native.Nat.{ℕ, zero, suc}
use lib.IntN.{pos, negsuc}
use lib.Ieee.{binary32, add, sub, mul, div, eq, lt, round, of_int}
use Rattle.spec_shapes.specs.Points.{plus, minus, scale, divided_by, dot, cross}
use Rattle.spec_shapes.specs.Triangles.{Triangle}
use Rattle.spec_angles.specs.Root.{whole_root, root_by, root_in, root, root_or_nan}
use Rattle.spec_angles.specs.Winding.{norm}
use Rattle.spec_tree.specs.Trees.{leaf, branch}
use Rattle.spec_dipoles.specs.Matrices.{zeros, outer, added, less}
use Rattle.spec_dipoles.specs.Sums.{Sums, cross_of, area_of, centre_of, normal_of, has_normal, no_sums, with_triangle, with_next, leaf_sums, joined_sums, tree_sums, dipole_of}
use Rattle.spec_dipoles.proofs.Worked.{point}

-- two triangles of area 18, one across z about (2,2,6) and one across x about (0,2,2), and then a single point
abbrev triangle : ℕ → Triangle
triangle zero = record { a = point (pos 0) (pos 0) (pos 6); b = point (pos 6) (pos 0) (pos 6); c = point (pos 0) (pos 6) (pos 6) }
triangle (suc zero) = record { a = point (pos 0) (pos 0) (pos 0); b = point (pos 0) (pos 6) (pos 0); c = point (pos 0) (pos 0) (pos 6) }
triangle (suc (suc k)) = record { a = point (pos 5) (pos 5) (pos 5); b = point (pos 5) (pos 5) (pos 5); c = point (pos 5) (pos 5) (pos 5) }

abbrev sums : Sums
sums = record {
  normal = point (pos 18) (pos 0) (pos 18);
  moments = record { x = point (pos 0) (pos 36) (pos 36); y = point (pos 0) (pos 0) (pos 0); z = point (pos 36) (pos 36) (pos 108) };
  area = of_int binary32 (pos 36);
  centre = point (pos 36) (pos 72) (pos 144);
}

-- each triangle counts by its area, and the one without a normal not at all
pub sums_worked : tree_sums binary32 triangle (branch (leaf (0 ∷ 2 ∷ [])) (leaf (1 ∷ []))) ≡ sums
unfolding add sub mul div eq round of_int plus minus scale divided_by dot cross whole_root root_by root_in root root_or_nan norm zeros outer added cross_of
    area_of
    centre_of normal_of has_normal no_sums with_triangle with_next leaf_sums joined_sums tree_sums
sums_worked = refl

-- the centre is (1,2,4), from which the box's corners lie at 3 and 5; the second order is about the centre
pub dipole_worked : dipole_of binary32 record { min = point (pos 0) (pos 0) (pos 2); max = point (pos 5) (pos 2) (pos 7) } sums
    ≡ record {
      first = point (pos 18) (pos 0) (pos 18);
      second = record {
        x = point (negsuc 17) (pos 0) (negsuc 35);
        y = point (pos 0) (pos 0) (pos 0);
        z = point (pos 18) (pos 0) (pos 36);
      };
      radius = of_int binary32 (pos 5);
      centre = point (pos 1) (pos 2) (pos 4);
    }
unfolding add sub mul div lt round of_int minus scale divided_by dot whole_root root_by root_in root root_or_nan outer less dipole_of
dipole_worked = refl
