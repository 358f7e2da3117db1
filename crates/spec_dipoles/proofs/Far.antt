-- A node is used as far exactly where its far term, or the NaN in its place, is finite: so code makes the term first, and asks once.
use mathlib.Core.Path.{◌≡◌, refl, ◌∙◌}
use mathlib.Core.Bool.{Bool, true, false, cond, ◌&&◌}
use lib.Ieee.{Float, Format, nan, mul, lt}
use lib.Ieee.Scale.{finite}
use Rattle.spec_numbers.proofs.Tests.{both_passed}
use Rattle.spec_shapes.specs.Points.{Point, minus, dot}
use Rattle.spec_angles.specs.Root.{root_or_nan}
use Rattle.spec_angles.specs.Winding.{norm}
use Rattle.spec_dipoles.specs.Sums.{Dipole}
use Rattle.spec_dipoles.specs.Far.{is_far, term_by, far_term, is_used, term_or_nan}
use Rattle.spec_dipoles.proofs.Turned.{length_either_way}

module _ (f : Format) (d : Dipole) (accuracy : Float) (q : Point) where
  finite_by : (b : Bool) (term : Float) → finite (cond b term nan) ≡ (b && finite term)
  finite_by true term = refl
  finite_by false term = refl

  -- code asks whether what it made is finite, and so whether the node is used
  pub finite_is_used : finite (term_or_nan f d accuracy q) ≡ is_used f d accuracy q
  unfolding term_or_nan is_used
  finite_is_used = finite_by (is_far f d accuracy q) (far_term f d q)

  -- where the node is used, what code made is the far term
  pub used_term : is_used f d accuracy q ≡ true → term_or_nan f d accuracy q ≡ far_term f d q
  unfolding term_or_nan is_used
  used_term h = rw (both_passed (is_far f d accuracy q) (finite (far_term f d q)) h).0

  module _ (r : Point) (r2 r1 : Float) (is : r ≡ minus f d.centre q) (squared : r2 ≡ dot f r r) (length : r1 ≡ root_or_nan f r2) where
    length_is : r1 ≡ norm f (minus f q d.centre)
    unfolding norm
    length_is = length ∙ rw (squared, is) (length_either_way f d.centre q)

    -- the branch in which the point is far: the term is made of the length that was compared
    pub far_taken : (term : Float) → lt (mul f d.radius accuracy) r1 ≡ true → term ≡ term_by f d r r2 r1 → term ≡ term_or_nan f d accuracy q
    unfolding term_or_nan is_far far_term norm
    far_taken term h e =
        let far : lt (mul f d.radius accuracy) (norm f (minus f q d.centre)) ≡ true = rw length_is at h in
        e ∙ rw (far, length, squared, is)

    -- the other branch: no number stands for the term
    pub far_left : lt (mul f d.radius accuracy) r1 ≡ false → nan ≡ term_or_nan f d accuracy q
    unfolding term_or_nan is_far
    far_left h =
        let near : lt (mul f d.radius accuracy) (norm f (minus f q d.centre)) ≡ false = rw length_is at h in
        rw near
