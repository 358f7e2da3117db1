-- What the part of a held point tells of it: a corner is that corner, and where no point could be computed it is an edge, or a corner where one starts.
-- Seven parts have seven numbers.
use mathlib.Core.Path.{◌≡◌, refl, sym, ap, ◌∙◌}
use mathlib.Core.Bool.{Bool, true, false, cond}
use Prim.Native.Nat.{ℕ, ◌<◌}
use native.Mathlib.Omega.{arith}
use lib.Dec.{eqb}
use lib.Ieee.{Format, lt, eq}
use Rattle.spec_numbers.specs.Values.{zero}
use Rattle.spec_numbers.specs.Axes.{X, Y, Z}
use Rattle.spec_numbers.proofs.Hold.{held_stays}
use Rattle.spec_shapes.specs.Points.{Point, minus, dot, is_finite, plus_zero}
use Rattle.spec_shapes.specs.Boxes.{Box, held_in, Inside}
use Rattle.spec_shapes.specs.Triangles.{Triangle, box_of, FiniteCorners, Part, face, corner_a, corner_b, corner_c, edge_ab, edge_ac, edge_bc, part_number, Dots, dots, part, point_on, Spot, closest_spot, closest_point, foot, finite_or, held_foot, foot_part, foot_spot, nearer_foot, nearest_foot, held_spot, held_point, AtCorner, OnEdgeOrStart}
use Rattle.spec_shapes.proofs.OnAxes.{held_on}
use Rattle.spec_shapes.proofs.Bounds.{box_holds_a, box_holds_b, box_holds_c}
use Rattle.spec_shapes.proofs.Held.{picked}

-- ---- numbers
abbrev back : ℕ → Part
back n =
    cond (eqb n 1) corner_a
    (cond (eqb n 2) corner_b (cond (eqb n 3) corner_c (cond (eqb n 4) edge_ab (cond (eqb n 5) edge_ac (cond (eqb n 6) edge_bc face)))))

back_is : (q : Part) → back (part_number q) ≡ q
unfolding part_number
back_is face = refl
back_is corner_a = refl
back_is corner_b = refl
back_is corner_c = refl
back_is edge_ab = refl
back_is edge_ac = refl
back_is edge_bc = refl

-- no two parts have one number: what is told fixes the part
pub part_number_unique : (a b : Part) → part_number a ≡ part_number b → a ≡ b
part_number_unique a b e = sym (back_is a) ∙ ap back e ∙ back_is b

-- a part's number is one digit, 0 to 6
pub part_number_below : (q : Part) → part_number q < 7
unfolding part_number
part_number_below face = omega arith
part_number_below corner_a = omega arith
part_number_below corner_b = omega arith
part_number_below corner_c = omega arith
part_number_below edge_ab = omega arith
part_number_below edge_ac = omega arith
part_number_below edge_bc = omega arith

-- ---- where no point could be computed
-- what is so of each foot is so of the nearest
of_nearest : (P : Spot → Type 0) (f : Format) (t : Triangle) (p : Point) → P (foot_spot f t t.a t.b corner_a edge_ab p)
    → P (foot_spot f t t.a t.c corner_a edge_ac p) → P (foot_spot f t t.b t.c corner_b edge_bc p) → P (nearest_foot f t p)
unfolding nearest_foot nearer_foot
of_nearest P f t p x y z = picked P (lt _ _) _ _ (λ h. z) (picked P (lt _ _) _ _ (λ h. y) x)

foot_part_is : (f : Format) (start end : Point) (corner edge : Part) → OnEdgeOrStart corner → OnEdgeOrStart edge
    → OnEdgeOrStart (foot_part f start end corner edge)
unfolding foot_part
foot_part_is f start end corner edge C E = go (eq (dot f (minus f end start) (minus f end start)) zero)
  where
    go : (b : Bool) → OnEdgeOrStart (cond b corner edge)
    go true = C
    go false = E

-- where a coordinate of the computed point is not finite the part is an edge or a corner where one starts, never the face, never corner c
pub foot_parts : (f : Format) (t : Triangle) (p : Point) → is_finite (closest_point f t p) ≡ false → OnEdgeOrStart (held_spot f t p).part
unfolding held_spot foot_spot
foot_parts f t p h =
    rw h (of_nearest (λ (s : Spot). OnEdgeOrStart s.part) f t p (foot_part_is f t.a t.b corner_a edge_ab tt tt)
    (foot_part_is f t.a t.c corner_a edge_ac tt tt) (foot_part_is f t.b t.c corner_b edge_bc tt tt))

-- ---- at a corner
-- a point of the box is held where it is
held_there : (b : Box) (q : Point) → Inside b q → held_in b q ≡ q
held_there b q s = λ i. record {
  x = (held_on b q X ∙ held_stays _ _ _ (s.low X) (s.high X)) i;
  y = (held_on b q Y ∙ held_stays _ _ _ (s.low Y) (s.high Y)) i;
  z = (held_on b q Z ∙ held_stays _ _ _ (s.low Z) (s.high Z)) i;
}

module _ (f : Format) (t : Triangle) (F : FiniteCorners t) (p : Point) where
  -- the point of a spot, once it is held into the box and its zeros are plus zero, is at the corner that is told
  abbrev Told : Part → Point → Type 0
  Told q a = AtCorner t q (plus_zero (held_in (box_of t) a))

  corner_told : (a : Point) → Inside (box_of t) a → plus_zero (held_in (box_of t) a) ≡ plus_zero a
  corner_told a s = ap plus_zero (held_there (box_of t) a s)

  computed_told : (d : Dots) (q : Part) → Told q (point_on f t d q)
  unfolding point_on
  computed_told d face = tt
  computed_told d corner_a = corner_told t.a (box_holds_a t F)
  computed_told d corner_b = corner_told t.b (box_holds_b t F)
  computed_told d corner_c = corner_told t.c (box_holds_c t F)
  computed_told d edge_ab = tt
  computed_told d edge_ac = tt
  computed_told d edge_bc = tt

  either : (b : Bool) (a : Point) → cond b a a ≡ a
  either true a = refl
  either false a = refl

  foot_told : (start end : Point) (corner edge : Part) → ((a : Point) → a ≡ start → Told corner a) → ((a : Point) → Told edge a)
      → AtCorner t (foot_part f start end corner edge) (plus_zero (held_foot f t start end p))
  unfolding foot_part held_foot finite_or foot
  foot_told start end corner edge C E = go (eq (dot f (minus f end start) (minus f end start)) zero) _
    where
      go : (b : Bool) (a : Point)
          → AtCorner t (cond b corner edge) (plus_zero (held_in (box_of t) (cond (is_finite (cond b start a)) (cond b start a) start)))
      go true a = C _ (either (is_finite start) start)
      go false a = E _

  -- where a corner is told, the sure query's point is that corner
  pub corner_is_hit : AtCorner t (held_spot f t p).part (held_point f t p)
  unfolding held_spot closest_spot foot_spot
  corner_is_hit =
      let d = dots f t p in
      picked (λ (s : Spot). AtCorner t s.part (plus_zero s.point)) (is_finite (point_on f t d (part f d))) _ _ (λ h. computed_told d (part f d))
      (of_nearest (λ (s : Spot). AtCorner t s.part (plus_zero s.point)) f t p
      (foot_told t.a t.b corner_a edge_ab (λ a e. rw e (corner_told t.a (box_holds_a t F))) (λ a. tt))
      (foot_told t.a t.c corner_a edge_ac (λ a e. rw e (corner_told t.a (box_holds_a t F))) (λ a. tt))
      (foot_told t.b t.c corner_b edge_bc (λ a e. rw e (corner_told t.b (box_holds_b t F))) (λ a. tt)))
