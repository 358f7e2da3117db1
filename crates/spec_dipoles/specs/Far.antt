-- When a node's dipole stands for its triangles at a point, and what it then gives.
use Rattle.std.specs.Prelude.{Bool, cond, ◌&&◌, Float}
use Rattle.std.specs.Float.{Format, nan}
use Rattle.std.specs.Float.Ieee.{add, mul, div, lt}
use Rattle.std.specs.Float.Ieee.Scale.{finite}
use Rattle.spec_numbers.specs.Values.{one}
use Rattle.spec_shapes.specs.Points.{Point, minus, scale, dot}
use Rattle.spec_angles.specs.Winding.{norm, pi, four}
use Rattle.spec_dipoles.specs.Matrices.{Matrix, outer, over, less, identity_times, dot_of}
use Rattle.spec_dipoles.specs.Sums.{three, Dipole}

-- the point is farther from the centre than the radius times the accuracy scale; from a centre that is no number nothing is far
unfoldable pub is_far : Format → Dipole → (accuracy : Float) → Point → Bool
is_far f d accuracy q = lt (mul f d.radius accuracy) (norm f (minus f q d.centre))

-- what the second order is multiplied with: the identity over 4 PI r³, less 3 r r transposed over 4 PI r⁵
unfoldable pub second_by : Format → (r : Point) (inverse r5 : Float) → Matrix
second_by f r inverse r5 = less f (identity_times f inverse) (over f (outer f (scale f r three) r) (mul f (mul f four (pi f)) r5))

-- the first order with r over 4 PI r³, plus the second order with the above; r2 is the square of r and r1 its length
unfoldable pub term_by : Format → Dipole → (r : Point) (r2 r1 : Float) → Float
term_by f d r r2 r1 =
    let r3 = mul f r2 r1 in
    let inverse = div f one (mul f (mul f four (pi f)) r3) in
    add f (dot f d.first (scale f r inverse)) (dot_of f d.second (second_by f r inverse (mul f r3 r2)))

-- the far term; r is the centre minus the point
unfoldable pub far_term : Format → Dipole → Point → Float
far_term f d q = let r = minus f d.centre q in term_by f d r (dot f r r) (norm f r)

-- used as far: the point is far, and the far term is a finite number
unfoldable pub is_used : Format → Dipole → (accuracy : Float) → Point → Bool
is_used f d accuracy q = is_far f d accuracy q && finite (far_term f d q)

-- the far term where the point is far, else no number: so it is finite exactly where the node is used
unfoldable pub term_or_nan : Format → Dipole → (accuracy : Float) → Point → Float
term_or_nan f d accuracy q = cond (is_far f d accuracy q) (far_term f d q) nan
