-- What an operation on points gives on one axis, and that a test of all three axes shows it of each: so laws of numbers become laws of points.
use mathlib.Core.Path.{◌≡◌, refl}
use mathlib.Core.Bool.{◌&&◌}
use lib.Dec.{T}
use lib.Ieee.{Float}
use lib.Ieee.Scale.{finite}
use lib.Ieee.Fits.{and_l, and_r}
use Rattle.spec_numbers.specs.Values as Values
use Rattle.spec_numbers.specs.Hold.{smaller, larger, held}
use Rattle.spec_numbers.specs.Axes.{Axis, X, Y, Z, Finite}
use Rattle.spec_shapes.specs.Points.{Point, on, at, by_axis, smallest, largest, is_finite, plus_zero}
use Rattle.spec_shapes.specs.Boxes.{Box, held_in}

-- a point has the coordinates that it is made of
pub on_by_axis : (c : Axis → Float) (i : Axis) → on i (by_axis c) ≡ c i
on_by_axis c X = refl
on_by_axis c Y = refl
on_by_axis c Z = refl

-- the smallest of two points is the smaller number on each axis
pub smallest_on : (a b : Point) (i : Axis) → on i (smallest a b) ≡ smaller (on i a) (on i b)
unfolding smallest
smallest_on a b = on_by_axis (λ i. smaller (on i a) (on i b))

-- the largest of two points is the larger number on each axis
pub largest_on : (a b : Point) (i : Axis) → on i (largest a b) ≡ larger (on i a) (on i b)
unfolding largest
largest_on a b = on_by_axis (λ i. larger (on i a) (on i b))

-- a point held into a box is held on each axis
pub held_on : (b : Box) (p : Point) (i : Axis) → on i (held_in b p) ≡ held (on i b.min) (on i b.max) (on i p)
unfolding held_in
held_on b p = on_by_axis (λ i. held (on i b.min) (on i b.max) (on i p))

-- a point plus zero is plus zero on each axis
pub plus_zero_on : (a : Point) (i : Axis) → on i (plus_zero a) ≡ Values.plus_zero (on i a)
unfolding plus_zero
plus_zero_on a = on_by_axis (λ i. Values.plus_zero (on i a))

-- a point that passed the test of finiteness is finite on each axis
pub finite_by_test : (a : Point) → T (is_finite a) → Finite (at a)
unfolding is_finite
finite_by_test a h X = and_l (finite a.x) (finite a.y) (and_l (finite a.x && finite a.y) (finite a.z) h)
finite_by_test a h Y = and_r (finite a.x) (finite a.y) (and_l (finite a.x && finite a.y) (finite a.z) h)
finite_by_test a h Z = and_r (finite a.x && finite a.y) (finite a.z) h
