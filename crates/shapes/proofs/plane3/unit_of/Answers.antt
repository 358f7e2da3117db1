-- `shapes::plane3::unit_of` meets its contract, in each arm.
use lib.Ieee.{of_bits}
use Rattle.spec_shapes.specs.Planes.{unit}
use Rattle.shapes.proofs.plane3.unit_of.Goals as goal

pub returns-in-X : goal.returns-in-X
unfolding unit of_bits
returns-in-X c = rw (c.splat-origin.ensures, c.in-X.is)

pub returns-in-Y : goal.returns-in-Y
unfolding unit of_bits
returns-in-Y c = rw (c.splat-origin.ensures, c.in-Y.is)

pub returns-in-Z : goal.returns-in-Z
unfolding unit of_bits
returns-in-Z c = rw (c.splat-origin.ensures, c.in-Z.is)
