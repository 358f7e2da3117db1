-- How the lists are read: each number as itself plus zero, so that no -0 comes in; three numbers to a point, nine to a triangle.
use Rattle.std.specs.Prelude.{List, ℕ, ◌+◌, ◌*◌, ◌/◌, length, get_or, Float}
use Rattle.std.specs.Float.{nan}
use Rattle.spec_numbers.specs.Values.{plus_zero}
use Rattle.spec_shapes.specs.Points.{Point}
use Rattle.spec_shapes.specs.Boxes.{Box}
use Rattle.spec_shapes.specs.Triangles.{Triangle, box_of}

unfoldable pub number_at : List Float → ℕ → Float
number_at xs i = plus_zero (get_or xs i nan)

-- the point that starts at index i: x y z
unfoldable pub point_at : List Float → ℕ → Point
point_at xs i = record { x = number_at xs i; y = number_at xs (i + 1); z = number_at xs (i + 2) }

-- triangle number t: a, b, c
unfoldable pub triangle_at : List Float → ℕ → Triangle
triangle_at xs t = record { a = point_at xs (9 * t); b = point_at xs (9 * t + 3); c = point_at xs (9 * t + 6) }

unfoldable pub box_at : List Float → ℕ → Box
box_at xs t = box_of (triangle_at xs t)

-- whole triangles and whole points: a ragged list is refused elsewhere
unfoldable pub triangle_count : List Float → ℕ
triangle_count xs = length xs / 9

unfoldable pub point_count : List Float → ℕ
point_count xs = length xs / 3
