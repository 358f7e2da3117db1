-- A union holds both boxes and lies in every box that does, and a triangle's box holds its corners; both are proper where what they
-- are made of is. So a node's box holds every triangle below the node.
use Rattle.spec_numbers.specs.Axes.{Finite, Under}
use Rattle.spec_numbers.proofs.Order.{reflexive, transitive, finite_number}
use Rattle.spec_numbers.proofs.Hold.{larger_first, larger_second, larger_least, larger_finite, smaller_first, smaller_second, smaller_greatest, smaller_finite}
use Rattle.spec_shapes.specs.Points.{Point, at, smallest, largest}
use Rattle.spec_shapes.specs.Boxes.{Box, union, Inside, Contains, Proper}
use Rattle.spec_shapes.specs.Triangles.{Triangle, box_of, FiniteCorners}
use Rattle.spec_shapes.proofs.OnAxes.{smallest_on, largest_on}

-- ---- the smallest and the largest of two points
module _ (a b : Point) where
  under_smallest : (c : Point) → Under (at c) (at a) → Under (at c) (at b) → Under (at c) (at (smallest a b))
  under_smallest c h k i = rw (smallest_on a b i) (smaller_greatest _ _ _ (h i) (k i))

  largest_under : (c : Point) → Under (at a) (at c) → Under (at b) (at c) → Under (at (largest a b)) (at c)
  largest_under c h k i = rw (largest_on a b i) (larger_least _ _ _ (h i) (k i))

  module _ (A : Finite (at a)) (B : Finite (at b)) where
    smallest_finite : Finite (at (smallest a b))
    smallest_finite i = rw (smallest_on a b i) (smaller_finite _ _ (A i) (B i))

    largest_finite : Finite (at (largest a b))
    largest_finite i = rw (largest_on a b i) (larger_finite _ _ (A i) (B i))

    smallest_under_first : Under (at (smallest a b)) (at a)
    smallest_under_first i = rw (smallest_on a b i) (smaller_first _ _ (finite_number _ (A i)))

    smallest_under_second : Under (at (smallest a b)) (at b)
    smallest_under_second i = rw (smallest_on a b i) (smaller_second _ _ (finite_number _ (A i)) (finite_number _ (B i)))

    first_under_largest : Under (at a) (at (largest a b))
    first_under_largest i = rw (largest_on a b i) (larger_first _ _ (finite_number _ (A i)))

    second_under_largest : Under (at b) (at (largest a b))
    second_under_largest i = rw (largest_on a b i) (larger_second _ _ (finite_number _ (A i)) (finite_number _ (B i)))

-- ---- boxes in boxes
-- a point in the inner box lies in the outer one
pub contains_inside : (b c : Box) (h : Point) → Contains b c → Inside c h → Inside b h
contains_inside b c h k s = record { low = λ i. transitive _ _ _ (k.low i) (s.low i); high = λ i. transitive _ _ _ (s.high i) (k.high i) }

-- boxes nest: so a node holds what the nodes below it hold
pub contains_transitive : (a b c : Box) → Contains a b → Contains b c → Contains a c
contains_transitive a b c h k = record { low = λ i. transitive _ _ _ (h.low i) (k.low i); high = λ i. transitive _ _ _ (k.high i) (h.high i) }

-- a proper box holds itself: the union over one triangle is that triangle's box
pub contains_itself : (b : Box) → Proper b → Contains b b
contains_itself b B = record { low = λ i. reflexive _ (finite_number _ (B.min i)); high = λ i. reflexive _ (finite_number _ (B.max i)) }

-- ---- the union
module _ (a b : Box) where
  -- a union is the smallest box that holds both
  pub union_least : (c : Box) → Contains c a → Contains c b → Contains c (union a b)
  unfolding union
  union_least c h k = record { low = under_smallest _ _ _ h.low k.low; high = largest_under _ _ _ h.high k.high }

  module _ (A : Proper a) (B : Proper b) where
    -- a union holds its first box
    pub union_holds_first : Contains (union a b) a
    unfolding union
    union_holds_first = record { low = smallest_under_first _ _ A.min B.min; high = first_under_largest _ _ A.max B.max }

    -- a union holds its second box
    pub union_holds_second : Contains (union a b) b
    unfolding union
    union_holds_second = record { low = smallest_under_second _ _ A.min B.min; high = second_under_largest _ _ A.max B.max }

    -- a union of proper boxes is proper, so the distance to it is a number
    pub union_proper : Proper (union a b)
    unfolding union
    union_proper = record {
      min = smallest_finite _ _ A.min B.min;
      max = largest_finite _ _ A.max B.max;
      ordered =
          λ i. transitive _ _ _ (smallest_under_first _ _ A.min B.min i) (transitive _ _ _ (A.ordered i) (first_under_largest _ _ A.max B.max i));
    }

-- ---- a triangle's box
module _ (t : Triangle) (F : FiniteCorners t) where
  -- a triangle's box holds the corner c
  pub box_holds_c : Inside (box_of t) t.c
  unfolding box_of
  box_holds_c = record {
    low = smallest_under_first _ _ F.c (smallest_finite _ _ F.a F.b);
    high = first_under_largest _ _ F.c (largest_finite _ _ F.a F.b);
  }

  -- a triangle's box holds the corner a
  pub box_holds_a : Inside (box_of t) t.a
  unfolding box_of
  box_holds_a = record {
    low = λ i. transitive _ _ _ (smallest_under_second _ _ F.c (smallest_finite _ _ F.a F.b) i) (smallest_under_first _ _ F.a F.b i);
    high = λ i. transitive _ _ _ (first_under_largest _ _ F.a F.b i) (second_under_largest _ _ F.c (largest_finite _ _ F.a F.b) i);
  }

  -- a triangle's box holds the corner b
  pub box_holds_b : Inside (box_of t) t.b
  unfolding box_of
  box_holds_b = record {
    low = λ i. transitive _ _ _ (smallest_under_second _ _ F.c (smallest_finite _ _ F.a F.b) i) (smallest_under_second _ _ F.a F.b i);
    high = λ i. transitive _ _ _ (second_under_largest _ _ F.a F.b i) (second_under_largest _ _ F.c (largest_finite _ _ F.a F.b) i);
  }

  -- a triangle with finite corners has a proper box
  pub box_proper : Proper (box_of t)
  unfolding box_of
  box_proper = record {
    min = smallest_finite _ _ F.c (smallest_finite _ _ F.a F.b);
    max = largest_finite _ _ F.c (largest_finite _ _ F.a F.b);
    ordered = λ i. transitive _ _ _ (box_holds_a.low i) (box_holds_a.high i);
  }
