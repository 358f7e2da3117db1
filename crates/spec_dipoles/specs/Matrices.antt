-- Three by three numbers, by columns, with the operations that sums and far terms take, in the order in which they are rounded.
use Rattle.std.specs.Prelude.{Float}
use Rattle.std.specs.Float.{Format}
use Rattle.std.specs.Float.Ieee.{add, mul}
use Rattle.spec_numbers.specs.Values.{zero, one}
use Rattle.spec_shapes.specs.Points.{Point, plus, minus, scale, divided_by}

-- columns x, y and z; the x, y and z of a column are its rows
pub record Matrix : Type 0 where
  pub x : Point
  pub y : Point
  pub z : Point

-- the point with three zeros
abbrev pub origin : Point
origin = record { x = zero; y = zero; z = zero }

unfoldable pub zeros : Matrix
zeros = record { x = origin; y = origin; z = origin }

-- column a times row b: in row i and column j stands a on i times b on j
unfoldable pub outer : Format → Point → Point → Matrix
outer f a b = record { x = scale f a b.x; y = scale f a b.y; z = scale f a b.z }

unfoldable pub added : Format → Matrix → Matrix → Matrix
added f m n = record { x = plus f m.x n.x; y = plus f m.y n.y; z = plus f m.z n.z }

unfoldable pub less : Format → Matrix → Matrix → Matrix
less f m n = record { x = minus f m.x n.x; y = minus f m.y n.y; z = minus f m.z n.z }

unfoldable pub over : Format → Matrix → Float → Matrix
over f m s = record { x = divided_by f m.x s; y = divided_by f m.y s; z = divided_by f m.z s }

-- the identity times s, entry by entry: off the diagonal stands 0 × s
unfoldable pub identity_times : Format → Float → Matrix
identity_times f s =
    let on = mul f one s in
    let off = mul f zero s in
    record {
      x = record { x = on; y = off; z = off };
      y = record { x = off; y = on; z = off };
      z = record { x = off; y = off; z = on };
    }

-- a sum, and then the three products down a column
unfoldable pub down_column : Format → Float → Point → Point → Float
down_column f sum a b = add f (add f (add f sum (mul f a.x b.x)) (mul f a.y b.y)) (mul f a.z b.z)

-- the nine products added to zero one after another, down each column, columns from the left
unfoldable pub dot_of : Format → Matrix → Matrix → Float
dot_of f m n = down_column f (down_column f (down_column f zero m.x n.x) m.y n.y) m.z n.z
