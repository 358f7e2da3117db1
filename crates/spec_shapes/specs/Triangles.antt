-- The closest point of a triangle: which of the source's seven tests answers first, and the point that it makes. The test tells the part that was hit.
-- Then the held point of the sure query, which is finite and in the triangle's box even where the closest point is neither: where that is not finite,
-- the feet on the edges stand in, and the edge that is kept tells the part.
use Rattle.std.specs.Prelude.{◌≡◌, cond, ◌&&◌, ℕ, Float}
use Rattle.std.specs.Float.{Format}
use Rattle.std.specs.Float.Ieee.{add, sub, mul, div, lt, le, eq}
use Rattle.spec_numbers.specs.Values.{zero, one}
use Rattle.spec_numbers.specs.Hold.{held}
use Rattle.spec_numbers.specs.Axes.{Finite}
use Rattle.spec_shapes.specs.Points.{Point, at, minus, plus, scale, dot, smallest, largest, is_finite, plus_zero, squared_distance}
use Rattle.spec_shapes.specs.Boxes.{Box, held_in}

pub record Triangle : Type 0 where
  pub a : Point
  pub b : Point
  pub c : Point

-- the smallest and the largest of the corners
unfoldable pub box_of : Triangle → Box
box_of t = record { min = smallest t.c (smallest t.a t.b); max = largest t.c (largest t.a t.b) }

-- the corners are finite
pub record FiniteCorners (t : Triangle) : Type 0 where
  pub a : Finite (at t.a)
  pub b : Finite (at t.b)
  pub c : Finite (at t.c)

-- what is said of the edges ab, ac and bc, each by its start and its end
abbrev pub OnEdges : (Point → Point → Type 0) → Triangle → Type 0
OnEdges P t = P t.a t.b × P t.a t.c × P t.b t.c

-- ---- what the tests look at: the edges ab and ac, each with the point seen from a, from b and from c
pub record Dots : Type 0 where
  pub d1 : Float
  pub d2 : Float
  pub d3 : Float
  pub d4 : Float
  pub d5 : Float
  pub d6 : Float

unfoldable pub dots : Format → Triangle → Point → Dots
dots f t p =
    let ab = minus f t.b t.a in
    let ac = minus f t.c t.a in
    record {
      d1 = dot f ab (minus f p t.a);
      d2 = dot f ac (minus f p t.a);
      d3 = dot f ab (minus f p t.b);
      d4 = dot f ac (minus f p t.b);
      d5 = dot f ab (minus f p t.c);
      d6 = dot f ac (minus f p t.c);
    }

-- a b - c d
unfoldable pub crossed : Format → Float → Float → Float → Float → Float
crossed f a b c d = sub f (mul f a b) (mul f c d)

abbrev pub va : Format → Dots → Float
va f d = crossed f d.d3 d.d6 d.d5 d.d4

abbrev pub vb : Format → Dots → Float
vb f d = crossed f d.d5 d.d2 d.d1 d.d6

abbrev pub vc : Format → Dots → Float
vc f d = crossed f d.d1 d.d4 d.d3 d.d2

-- ---- the first test that answers
pub data Part : Type 0 where
  face corner_a corner_b corner_c edge_ab edge_ac edge_bc : Part

-- the number by which an answer tells it
unfoldable pub part_number : Part → ℕ
part_number face = 0
part_number corner_a = 1
part_number corner_b = 2
part_number corner_c = 3
part_number edge_ab = 4
part_number edge_ac = 5
part_number edge_bc = 6

unfoldable pub part : Format → Dots → Part
part f d =
    cond (le d.d1 zero && le d.d2 zero) corner_a
    (cond (le zero d.d3 && le d.d4 d.d3) corner_b
    (cond (le (vc f d) zero && le zero d.d1 && le d.d3 zero) edge_ab
    (cond (le zero d.d6 && le d.d5 d.d6) corner_c
    (cond (le (vb f d) zero && le zero d.d2 && le d.d6 zero) edge_ac
    (cond (le (va f d) zero && le zero (sub f d.d4 d.d3) && le zero (sub f d.d5 d.d6)) edge_bc
    face)))))

-- ---- the point that it makes
-- start + edge × s
unfoldable pub along : Format → Point → Point → Float → Point
along f start edge s = plus f start (scale f edge s)

unfoldable pub face_point : Format → Triangle → Dots → Point
face_point f t d =
    let denominator = div f one (add f (add f (va f d) (vb f d)) (vc f d)) in
    let onAB = along f t.a (minus f t.b t.a) (mul f (vb f d) denominator) in
    along f onAB (minus f t.c t.a) (mul f (vc f d) denominator)

unfoldable pub point_on : Format → Triangle → Dots → Part → Point
point_on f t d face = face_point f t d
point_on f t d corner_a = t.a
point_on f t d corner_b = t.b
point_on f t d corner_c = t.c
point_on f t d edge_ab = along f t.a (minus f t.b t.a) (div f d.d1 (sub f d.d1 d.d3))
point_on f t d edge_ac = along f t.a (minus f t.c t.a) (div f d.d2 (sub f d.d2 d.d6))
point_on f t d edge_bc =
    let toB = sub f d.d4 d.d3 in
    along f t.b (minus f t.c t.b) (div f toB (add f toB (sub f d.d5 d.d6)))

-- a point of a triangle, and the part that was hit
pub record Spot : Type 0 where
  pub point : Point
  pub part : Part

-- the source's closest point, and the test that answered
unfoldable pub closest_spot : Format → Triangle → Point → Spot
closest_spot f t p = let d = dots f t p in record { point = point_on f t d (part f d); part = part f d }

abbrev pub closest_point : Format → Triangle → Point → Point
closest_point f t p = (closest_spot f t p).point

-- ---- the sure query's point
-- the foot of p on an edge: start + edge × s, s being edge·(p - start) / edge·edge held to 0 and 1; the start itself where edge·edge is zero
unfoldable pub foot : Format → Point → Point → Point → Point
foot f start end p =
    let edge = minus f end start in
    let size = dot f edge edge in
    cond (eq size zero) start (along f start edge (held zero one (div f (dot f edge (minus f p start)) size)))

-- q, or a where a coordinate of q is not finite
unfoldable pub finite_or : Point → Point → Point
finite_or a q = cond (is_finite q) q a

-- the foot held into the triangle's box. It is finite for coordinates in range (`foot_as_told`); elsewhere the start stands in, so that no law needs a range.
unfoldable pub held_foot : Format → Triangle → Point → Point → Point → Point
held_foot f t start end p = held_in (box_of t) (finite_or start (foot f start end p))

-- the part that a foot hits: the edge, at its ends too; its starting corner where edge·edge is zero
unfoldable pub foot_part : Format → Point → Point → Part → Part → Part
foot_part f start end corner edge = cond (eq (dot f (minus f end start) (minus f end start)) zero) corner edge

unfoldable pub foot_spot : Format → Triangle → Point → Point → Part → Part → Point → Spot
foot_spot f t start end corner edge p = record { point = held_foot f t start end p; part = foot_part f start end corner edge }

-- of two feet the one with the smaller squared distance, the first among equals
unfoldable pub nearer_foot : Format → Point → Spot → Spot → Spot
nearer_foot f p first second = cond (lt (squared_distance f second.point p) (squared_distance f first.point p)) second first

-- the feet on ab, ac and bc, in turn
unfoldable pub nearest_foot : Format → Triangle → Point → Spot
nearest_foot f t p =
    nearer_foot f p
    (nearer_foot f p (foot_spot f t t.a t.b corner_a edge_ab p) (foot_spot f t t.a t.c corner_a edge_ac p))
    (foot_spot f t t.b t.c corner_b edge_bc p)

-- another point for a spot: the part stays
abbrev pub moved : (Point → Point) → Spot → Spot
moved to s = record { point = to s.point; part = s.part }

-- the computed point q held into the triangle's box, or the nearest foot where a coordinate of q is not finite; zeros plus zero
abbrev pub held_from : Format → Triangle → Point → Spot → Spot
held_from f t p q = moved plus_zero (cond (is_finite q.point) (moved (held_in (box_of t)) q) (nearest_foot f t p))

-- the computed closest point, held
unfoldable pub held_spot : Format → Triangle → Point → Spot
held_spot f t p = held_from f t p (closest_spot f t p)

abbrev pub held_point : Format → Triangle → Point → Point
held_point f t p = (held_spot f t p).point

-- ---- what a part tells
-- of a point that is told with a corner: it is that corner, zeros plus zero
abbrev pub AtCorner : Triangle → Part → Point → Type 0
AtCorner t face q = Unit {0}
AtCorner t corner_a q = q ≡ plus_zero t.a
AtCorner t corner_b q = q ≡ plus_zero t.b
AtCorner t corner_c q = q ≡ plus_zero t.c
AtCorner t edge_ab q = Unit {0}
AtCorner t edge_ac q = Unit {0}
AtCorner t edge_bc q = Unit {0}

-- of a foot: it is on an edge, or on a corner where an edge starts
abbrev pub OnEdgeOrStart : Part → Type 0
OnEdgeOrStart face = ⊥
OnEdgeOrStart corner_a = Unit {0}
OnEdgeOrStart corner_b = Unit {0}
OnEdgeOrStart corner_c = ⊥
OnEdgeOrStart edge_ab = Unit {0}
OnEdgeOrStart edge_ac = Unit {0}
OnEdgeOrStart edge_bc = Unit {0}
