-- The foot of a point on an edge is finite for coordinates in range, however short the edge is: so it is as the request tells it, and the guard for
-- feet that are not finite never acts (`foot_as_told`).
use mathlib.Core.Path.{◌≡◌, ap}
use mathlib.Core.Bool.{Bool, true, false, not, cond}
use Prim.Native.Nat.{◌^◌}
use lib.Dec.{T, lit≤}
use lib.Ieee.{Float, Format, div, eq}
use lib.Ieee.Bits.{is_true}
use Rattle.spec_numbers.specs.Values.{zero, one}
use Rattle.spec_numbers.specs.Hold.{held}
use Rattle.spec_numbers.proofs.Within.{share_within}
use Rattle.spec_shapes.specs.Points.{Point, minus, plus, scale, dot, is_finite}
use Rattle.spec_shapes.specs.Boxes.{held_in}
use Rattle.spec_shapes.specs.Triangles.{Triangle, box_of, OnEdges, along, foot, finite_or, held_foot}
use Rattle.spec_shapes.proofs.Within.{PointWithin, point_within_more, plus_within, scale_within, power, difference_within, dot_of_differences, within_is_finite}

-- ---- a foot is finite
module _ (f : Format) (start end p : Point) (S : PointWithin (2 ^ 20) start) (E : PointWithin (2 ^ 20) end) (P : PointWithin (2 ^ 20) p) where
  edge_within : PointWithin (2 ^ 21) (minus f end start)
  edge_within = difference_within f end start E S

  foot_within : PointWithin (2 ^ 22) (foot f start end p)
  unfolding foot along
  foot_within = go (eq size zero) (λ h. h)
    where
      edge : Point
      edge = minus f end start

      size : Float
      size = dot f edge edge

      share : Float
      share = held zero one (div f (dot f edge (minus f p start)) size)

      go : (b : Bool) → (T (not b) → T (not (eq size zero))) → PointWithin (2 ^ 22) (cond b start (plus f start (scale f edge share)))
      go true h = point_within_more start (lit≤ tt) S
      go false h =
          let over = (dot_of_differences f _ _ edge_within (difference_within f p start P S)).is_finite in
          let under = (dot_of_differences f _ _ edge_within edge_within).is_finite in
          let step = scale_within f (2 ^ 21) 1 edge _ edge_within (share_within f _ _ over under (h tt)) (power f 21 (lit≤ tt)) in
          plus_within f (2 ^ 21) (2 ^ 21) _ _ (point_within_more start (lit≤ tt) S) step (power f 22 (lit≤ tt))

  -- so the guard never acts: what is held and compared is the foot as the request tells it
  pub foot_as_told : finite_or start (foot f start end p) ≡ foot f start end p
  unfolding finite_or
  foot_as_told = rw (is_true (is_finite (foot f start end p)) (within_is_finite (2 ^ 22) (foot f start end p) foot_within))

-- so are the three feet of a triangle in range, once they are held
pub feet_as_told : (f : Format) (t : Triangle) (p : Point) → PointWithin (2 ^ 20) t.a → PointWithin (2 ^ 20) t.b → PointWithin (2 ^ 20) t.c
    → PointWithin (2 ^ 20) p → OnEdges (λ start end. held_foot f t start end p ≡ held_in (box_of t) (foot f start end p)) t
unfolding held_foot
feet_as_told f t p A B C P =
    let told : (start end : Point) → PointWithin (2 ^ 20) start → PointWithin (2 ^ 20) end
    → held_in (box_of t) (finite_or start (foot f start end p)) ≡ held_in (box_of t) (foot f start end p) =
    λ start end S E. ap (held_in (box_of t)) (foot_as_told f start end p S E P) in
    (told _ _ A B, told _ _ A C, told _ _ B C)
