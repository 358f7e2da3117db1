-- The three axes, and squared distances on one axis and on all three as rounded arithmetic works them out: answers are nearest in this measure.
use Rattle.std.specs.Prelude.{T, Float}
use Rattle.std.specs.Float.{Format}
use Rattle.std.specs.Float.Ieee.{le, add, sub, mul}
use Rattle.std.specs.Float.Ieee.Scale.{finite}

-- an axis is a name, so that a law is stated once and not three times
pub data Axis : Type 0 where
  X Y Z : Axis

-- ---- squared distances
-- (a - p)²
abbrev pub apart2 : Format → Float → Float → Float
apart2 f a p = mul f (sub f a p) (sub f a p)

-- the sum over the axes, from the left
abbrev pub distance2 : Format → (Axis → Float) → (Axis → Float) → Float
distance2 f a p = add f (add f (apart2 f (a X) (p X)) (apart2 f (a Y) (p Y))) (apart2 f (a Z) (p Z))

-- ---- what may be said on each axis
-- every coordinate is finite, so no difference of coordinates is a NaN
abbrev pub Finite : (Axis → Float) → Type 0
Finite a = (i : Axis) → T (finite (a i))

-- no coordinate of a is above that of b: so the corners of a box are ordered, and a point in it lies between them
abbrev pub Under : (Axis → Float) → (Axis → Float) → Type 0
Under a b = (i : Axis) → T (le (a i) (b i))
