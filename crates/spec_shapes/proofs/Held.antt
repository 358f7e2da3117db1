-- The held point of a triangle with finite corners is finite, lies in the triangle's box, and has no -0, be it the computed point or a foot.
-- So no box that holds the triangle's box is farther than it in rounded arithmetic: a box may be skipped by its own squared distance.
use mathlib.Core.Path.{◌≡◌, refl}
use mathlib.Core.Bool.{Bool, true, false, not, cond}
use lib.Dec.{T}
use lib.Ieee.{Float, Format, lt, eq, le}
use Rattle.spec_numbers.specs.Values.{zero, Number}
use Rattle.spec_numbers.specs.Axes.{Axis, Finite, distance2}
use Rattle.spec_numbers.proofs.Order.{reflexive, transitive, lt→le, not_lt→le, finite_number, finite_between}
use Rattle.spec_numbers.proofs.Hold.{held_at_least, held_at_most, held_finite}
use Rattle.spec_numbers.proofs.Nearest.{distance_not_below, distance_number, held_is_nearest_of_three}
use Rattle.spec_numbers.proofs.PlusZero.{plus_zero_finite, plus_zero_not_below, plus_zero_not_above, plus_zero_no_minus_zero}
use Rattle.spec_shapes.specs.Points.{Point, on, at, minus, dot, is_finite, plus_zero, squared_distance}
use Rattle.spec_shapes.specs.Boxes.{Box, held_in, held_squared, Inside, Contains, Proper}
use Rattle.spec_shapes.specs.Triangles.{Triangle, box_of, Spot, closest_spot, closest_point, finite_or, held_foot, foot_spot, nearer_foot, nearest_foot, moved, held_spot, held_point, FiniteCorners, OnEdges}
use Rattle.spec_shapes.proofs.OnAxes.{held_on, plus_zero_on, finite_by_test}
use Rattle.spec_shapes.proofs.Bounds.{box_proper, contains_inside}

-- ---- squared distances
squared_is : (f : Format) (a p : Point) → squared_distance f a p ≡ distance2 f (at a) (at p)
unfolding squared_distance dot minus
squared_is f a p = refl

squared_number : (f : Format) (a p : Point) → Finite (at a) → Finite (at p) → Number (squared_distance f a p)
squared_number f a p A P = rw (squared_is f a p) (distance_number f (at p) P (at a) A)

-- ---- a point held into a box
module _ (b : Box) (B : Proper b) (q : Point) (Q : Finite (at q)) where
  held_in_finite : Finite (at (held_in b q))
  held_in_finite i = rw (held_on b q i) (held_finite _ _ _ (B.min i) (B.max i) (Q i))

  held_in_inside : Inside b (held_in b q)
  held_in_inside = record {
    low = λ i. rw (held_on b q i) (held_at_least _ _ _ (B.ordered i) (finite_number _ (Q i)));
    high = λ i. rw (held_on b q i) (held_at_most _ _ _ (B.ordered i) (finite_number _ (Q i)));
  }

  -- it is the nearest of the box
  held_in_nearest : (f : Format) (h : Point) → Inside b h → T (le (held_squared f b q) (squared_distance f h q))
  unfolding held_squared squared_distance dot minus held_in
  held_in_nearest f h s =
      held_is_nearest_of_three f (at q) Q (at b.min) (at b.max) (at h) B.min B.max
      (λ i. finite_between _ _ _ (B.min i) (B.max i) (s.low i) (s.high i)) s.low s.high

  -- the squared distance to a box is no NaN, so it compares with the smallest so far
  pub held_squared_number : (f : Format) → Number (held_squared f b q)
  unfolding held_squared
  held_squared_number f = squared_number f (held_in b q) q held_in_finite Q

-- ---- points that are finite and lie in a box
record KeptIn (b : Box) (a : Point) : Type 0 where
  is_finite : Finite (at a)
  inside : Inside b a

-- what is so of both is so of the one that is picked
pub picked : {A : Type 0} (P : A → Type 0) (b : Bool) (x y : A) → (T b → P x) → P y → P (cond b x y)
picked P true x y X Y = X tt
picked P false x y X Y = Y

held_kept : (b : Box) → Proper b → (q : Point) → Finite (at q) → KeptIn b (held_in b q)
held_kept b B q Q = record { is_finite = held_in_finite b B q Q; inside = held_in_inside b B q Q }

module _ (f : Format) (t : Triangle) (F : FiniteCorners t) (p : Point) where
  -- ---- the feet
  foot_kept : (start end : Point) → Finite (at start) → KeptIn (box_of t) (held_foot f t start end p)
  unfolding held_foot finite_or
  foot_kept start end S = held_kept (box_of t) (box_proper t F) _ (picked (λ (a : Point). Finite (at a)) (is_finite _) _ start (finite_by_test _) S)

  -- a spot whose point is kept
  abbrev Kept : Spot → Type 0
  Kept s = KeptIn (box_of t) s.point

  nearer_kept : (a b : Spot) → Kept a → Kept b → Kept (nearer_foot f p a b)
  unfolding nearer_foot
  nearer_kept a b A B = picked Kept (lt (squared_distance f b.point p) (squared_distance f a.point p)) b a (λ h. B) A

  -- how far a spot is
  abbrev far : Spot → Float
  far s = squared_distance f s.point p

  nearer_no_farther : (a b : Spot) → Kept a → Kept b → Finite (at p) → T (le (far (nearer_foot f p a b)) (far a)) × T (le (far (nearer_foot f p a b)) (far b))
  unfolding nearer_foot
  nearer_no_farther a b A B P = go (lt (far b) (far a)) (λ h. h) (λ h. h)
    where
      m : Number (far a)
      m = squared_number f a.point p A.is_finite P

      n : Number (far b)
      n = squared_number f b.point p B.is_finite P

      go : (c : Bool) → (T c → T (lt (far b) (far a))) → (T (not c) → T (not (lt (far b) (far a))))
          → T (le (far (cond c b a)) (far a)) × T (le (far (cond c b a)) (far b))
      go true h k = (lt→le _ _ (h tt), reflexive _ n)
      go false h k = (reflexive _ m, not_lt→le _ _ n m (k tt))

  nearest_kept : Kept (nearest_foot f t p)
  unfolding nearest_foot foot_spot
  nearest_kept = nearer_kept _ _ (nearer_kept _ _ (foot_kept t.a t.b F.a) (foot_kept t.a t.c F.a)) (foot_kept t.b t.c F.b)

  -- the nearest foot is no farther than any of the three
  pub nearest_foot_no_farther : Finite (at p)
      → OnEdges (λ start end. T (le (squared_distance f (nearest_foot f t p).point p) (squared_distance f (held_foot f t start end p) p))) t
  unfolding nearest_foot foot_spot
  nearest_foot_no_farther P =
      let x = foot_kept t.a t.b F.a in
      let y = foot_kept t.a t.c F.a in
      let z = foot_kept t.b t.c F.b in
      let early = nearer_no_farther _ _ x y P in
      let all = nearer_no_farther _ _ (nearer_kept _ _ x y) z P in
      (transitive _ _ _ all.0 early.0, transitive _ _ _ all.0 early.1, all.1)

  -- ---- the held point, before its zeros are made plus zero
  kept : Spot
  kept = let q = closest_spot f t p in cond (is_finite q.point) (moved (held_in (box_of t)) q) (nearest_foot f t p)

  held_is : held_point f t p ≡ plus_zero kept.point
  unfolding held_spot kept
  held_is = refl

  kept_in : Kept kept
  unfolding kept
  kept_in =
      let q = closest_point f t p in
      picked Kept (is_finite q) _ _ (λ h. held_kept (box_of t) (box_proper t F) q (finite_by_test q h)) nearest_kept

  -- where the computed point is finite it is that point, held, and the test that answered: feet are asked nowhere else, and holding changes no part
  pub finite_is_held : is_finite (closest_point f t p) ≡ true → held_spot f t p ≡ moved (λ q. plus_zero (held_in (box_of t) q)) (closest_spot f t p)
  unfolding held_spot
  finite_is_held h = rw h

  -- the sure query's point is finite, though the source's closest point may not be
  pub held_point_finite : Finite (at (held_point f t p))
  held_point_finite i = rw (held_is, plus_zero_on kept.point i) (plus_zero_finite (on i kept.point) (kept_in.is_finite i))

  -- the sure query's point lies in the triangle's box
  pub held_point_inside : Inside (box_of t) (held_point f t p)
  held_point_inside = record {
    low = λ i. rw (held_is, plus_zero_on kept.point i) (transitive _ _ _ (kept_in.inside.low i) (plus_zero_not_below _ (kept_in.is_finite i)));
    high = λ i. rw (held_is, plus_zero_on kept.point i) (transitive _ _ _ (plus_zero_not_above _ (kept_in.is_finite i)) (kept_in.inside.high i));
  }

  -- no coordinate of the sure query's point is -0
  pub held_point_no_minus_zero : (i : Axis) → T (eq (on i (held_point f t p)) zero) → on i (held_point f t p) ≡ zero
  held_point_no_minus_zero i = rw (held_is, plus_zero_on kept.point i) (plus_zero_no_minus_zero (on i kept.point))

  -- the squared distance to the sure query's point is not below zero
  pub held_squared_not_below : Finite (at p) → T (le zero (squared_distance f (held_point f t p) p))
  held_squared_not_below P = rw (squared_is f (held_point f t p) p) (distance_not_below f (at p) P (at (held_point f t p)) held_point_finite)

  -- no box that holds the triangle's box is farther than the held point: skipping a box that is too far loses nothing
  pub box_is_nearer : Finite (at p) → (b : Box) → Proper b → Contains b (box_of t) → T (le (held_squared f b p) (squared_distance f (held_point f t p) p))
  box_is_nearer P b B k = held_in_nearest b B p P f (held_point f t p) (contains_inside _ _ _ k held_point_inside)
