-- The source's test of a plane and a box, and the unit vector of each axis: the median rule lays its plane across an axis.
use Rattle.std.specs.Prelude.{Bool, Float}
use Rattle.std.specs.Float.{Format}
use Rattle.std.specs.Float.Ieee.{add, sub, mul, le}
use Rattle.spec_numbers.specs.Values.{zero, one, abs}
use Rattle.spec_numbers.specs.Axes.{Axis, X, Y, Z}
use Rattle.spec_shapes.specs.Points.{Point, minus, dot}
use Rattle.spec_shapes.specs.Boxes.{Box, centre}

-- normal · x = distance
pub record Plane : Type 0 where
  pub normal : Point
  pub distance : Float

-- the unit vector of an axis
unfoldable pub unit : Axis → Point
unit X = record { x = one; y = zero; z = zero }
unit Y = record { x = zero; y = one; z = zero }
unit Z = record { x = zero; y = zero; z = one }

-- how far a box with these half sizes reaches from its centre along the normal
unfoldable pub reach : Format → Point → Point → Float
reach f n halves = add f (add f (mul f halves.x (abs n.x)) (mul f halves.y (abs n.y))) (mul f halves.z (abs n.z))

-- the centre is no farther from the plane than the box reaches: a box that only touches it meets it too
unfoldable pub meets_box : Format → Plane → Box → Bool
meets_box f plane b =
    let c = centre f b in
    le (abs (sub f (dot f plane.normal c) plane.distance)) (reach f plane.normal (minus f b.max c))
