-- Boxes, with the source's operations in the source's order, and what may be said of them: what code answers is equal to these.
use Rattle.std.specs.Prelude.{Bool, cond, ◌&&◌, Float}
use Rattle.std.specs.Float.{Format}
use Rattle.std.specs.Float.Ieee.{add, sub, mul, div, lt}
use Rattle.spec_numbers.specs.Values as Values
use Rattle.spec_numbers.specs.Hold.{held}
use Rattle.spec_numbers.specs.Axes.{Finite, Under}
use Rattle.spec_shapes.specs.Points.{Point, on, at, by_axis, minus, plus, divided_by, smallest, largest, is_under, squared_distance}

pub record Box : Type 0 where
  pub min : Point
  pub max : Point

-- no box, which a union begins with: joined with a box of finite numbers it gives that box
unfoldable pub empty : Format → Box
empty f = record { min = by_axis (λ i. Values.largest f); max = by_axis (λ i. Values.least f) }

unfoldable pub union : Box → Box → Box
union a b = record { min = smallest a.min b.min; max = largest a.max b.max }

unfoldable pub union_point : Box → Point → Box
union_point a p = record { min = smallest a.min p; max = largest a.max p }

-- (min + max) / 2
unfoldable pub centre : Format → Box → Point
centre f b = divided_by f (plus f b.min b.max) Values.two

unfoldable pub sizes : Format → Box → Point
sizes f b = minus f b.max b.min

-- the surface, for the area rule
unfoldable pub area : Format → Box → Float
area f b =
    let d = sizes f b in
    mul f Values.two (add f (add f (mul f d.x d.y) (mul f d.x d.z)) (mul f d.y d.z))

-- for the median rule
unfoldable pub volume : Format → Box → Float
volume f b = let d = sizes f b in mul f (mul f d.x d.y) d.z

-- where p lies between lo and hi, 0 at lo and 1 at hi: it divides only where hi > lo
unfoldable pub offset_on : Format → Float → Float → Float → Float
offset_on f lo hi p = cond (lt lo hi) (div f (sub f p lo) (sub f hi lo)) (sub f p lo)

unfoldable pub offset : Format → Box → Point → Point
offset f b p = by_axis (λ i. offset_on f (on i b.min) (on i b.max) (on i p))

-- ---- the source's distance
-- the sum so far, and the square of how far `far` is past `near`
unfoldable pub with_excess : Format → Float → Float → Float → Float
with_excess f sum far near = cond (lt near far) (add f sum (mul f (sub f far near) (sub f far near))) sum

-- the sum so far, and the square of how far v is outside lo and hi
unfoldable pub with_outside : Format → Float → Float → Float → Float → Float
with_outside f sum lo hi v = with_excess f (with_excess f sum lo v) v hi

-- each axis adds to the sum only where the point is outside the box on it
unfoldable pub box_squared : Format → Box → Point → Float
box_squared f b p =
    let x = with_outside f Values.zero b.min.x b.max.x p.x in
    let y = with_outside f x b.min.y b.max.y p.y in
    with_outside f y b.min.z b.max.z p.z

unfoldable pub contains_point : Box → Point → Bool
contains_point b p = is_under b.min p && is_under p b.max

-- min2(max2(min, p), max)
unfoldable pub closest_in_box : Box → Point → Point
closest_in_box b p = smallest (largest b.min p) b.max

-- ---- the sure query's distance
-- p held into the box: raised to min, then lowered to max
unfoldable pub held_in : Box → Point → Point
held_in b p = by_axis (λ i. held (on i b.min) (on i b.max) (on i p))

-- the point held into the box, minus the point, then dot: by this a node is skipped
unfoldable pub held_squared : Format → Box → Point → Float
held_squared f b p = squared_distance f (held_in b p) p

-- ---- what may be said of boxes
-- the point a lies in the box b
pub record Inside (b : Box) (a : Point) : Type 0 where
  pub low : Under (at b.min) (at a)
  pub high : Under (at a) (at b.max)

-- the box c lies in the box b
pub record Contains (b c : Box) : Type 0 where
  pub low : Under (at b.min) (at c.min)
  pub high : Under (at c.max) (at b.max)

-- the corners of b are finite, and in order
pub record Proper (b : Box) : Type 0 where
  pub min : Finite (at b.min)
  pub max : Finite (at b.max)
  pub ordered : Under (at b.min) (at b.max)
