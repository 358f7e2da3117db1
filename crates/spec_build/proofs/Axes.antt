-- In which order the axes are tried, and which rule a strategy is.
use mathlib.Core.Path.{◌≡◌, refl}
use mathlib.Core.Bool.{true, false}
use mathlib.Core.List.{[], ◌∷◌}
use lib.Ieee.{Float, Format, lt}
use Rattle.spec_numbers.specs.Axes.{Axis, X, Y, Z}
use Rattle.spec_splits.specs.Median.{median_split}
use Rattle.spec_splits.specs.Area.{area_split}
use Rattle.spec_build.specs.Tries.{axis_inserted, axes_by_size, rule}

module _ (size : Axis → Float) where
  -- the largest box size first
  pub largest_first : lt (size X) (size Y) ≡ true → lt (size X) (size Z) ≡ true → lt (size Y) (size Z) ≡ true → axes_by_size size ≡ Z ∷ Y ∷ X ∷ []
  unfolding axes_by_size axis_inserted
  largest_first xy xz yz = rw (yz, xz, xy)

  -- ties in order X, Y, Z
  pub ties_in_order : lt (size X) (size Y) ≡ false → lt (size Y) (size Z) ≡ false → axes_by_size size ≡ X ∷ Y ∷ Z ∷ []
  unfolding axes_by_size axis_inserted
  ties_in_order xy yz = rw (yz, xy)

-- strategy 1 is median, 2 is area
pub strategies : (f : Format) → (rule f 1 ≡ median_split f) × (rule f 2 ≡ area_split f)
unfolding rule
strategies f = (refl, refl)
