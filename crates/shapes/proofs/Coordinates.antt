-- A vector that an operation made on each axis, by what it made on each.
use mathlib.Core.Path.{◌≡◌}
use Rattle.spec_shapes.specs.Points.{Point}
use Rattle.shapes.specs.declared.vec3.Vec3.{Vec3}
use Rattle.shapes.specs.Values.{as_point}

-- a vector stands for the point that has its coordinates
pub by_coordinates : (v : Vec3) (p : Point) → v.x ≡ p.x → v.y ≡ p.y → v.z ≡ p.z → as_point v ≡ p
by_coordinates v p x y z = λ i. record { x = x i; y = y i; z = z i }
