-- Boxes of plain numbers may be joined in any order and any grouping: the two sweeps over the buckets rely on it.
use mathlib.Core.Path.{◌≡◌, sym, ap, ◌∙◌}
use lib.Ieee.{Format}
use Rattle.spec_numbers.specs.Values as Values
use Rattle.spec_numbers.specs.Axes.{Axis, X, Y, Z}
use Rattle.spec_numbers.proofs.Plain.{largest_number_plain, least_number_plain, smaller_plain, larger_plain, smaller_comm, larger_comm, smaller_assoc, larger_assoc}
use Rattle.spec_shapes.specs.Points.{Point, on, smallest, largest}
use Rattle.spec_shapes.specs.Boxes.{Box, empty, union}
use Rattle.spec_shapes.specs.Triangles.{Triangle, box_of}
use Rattle.spec_shapes.specs.Plain.{PlainPoint, PlainBox}
use Rattle.spec_shapes.proofs.OnAxes.{on_by_axis, smallest_on, largest_on}

-- points that agree on each axis are the same
same_on_each : (a b : Point) → ((i : Axis) → on i a ≡ on i b) → a ≡ b
same_on_each a b h = λ j. record { x = h X j; y = h Y j; z = h Z j }

module _ (f : Format) where
  module _ (a b : Point) (A : PlainPoint f a) (B : PlainPoint f b) where
    smallest_plain : PlainPoint f (smallest a b)
    smallest_plain i = rw (smallest_on a b i) (smaller_plain f _ _ (A i) (B i))

    largest_plain : PlainPoint f (largest a b)
    largest_plain i = rw (largest_on a b i) (larger_plain f _ _ (A i) (B i))

    smallest_comm : smallest a b ≡ smallest b a
    smallest_comm = same_on_each _ _ (λ i. rw (smallest_on a b i, smallest_on b a i) (smaller_comm f _ _ (A i) (B i)))

    largest_comm : largest a b ≡ largest b a
    largest_comm = same_on_each _ _ (λ i. rw (largest_on a b i, largest_on b a i) (larger_comm f _ _ (A i) (B i)))

  module _ (a b c : Point) (A : PlainPoint f a) (B : PlainPoint f b) (C : PlainPoint f c) where
    smallest_assoc : smallest (smallest a b) c ≡ smallest a (smallest b c)
    smallest_assoc =
        same_on_each _ _ (λ i.
        rw (smallest_on (smallest a b) c i, smallest_on a b i, smallest_on a (smallest b c) i, smallest_on b c i) (smaller_assoc f _ _ _ (A i) (B i) (C i)))

    largest_assoc : largest (largest a b) c ≡ largest a (largest b c)
    largest_assoc =
        same_on_each _ _
        (λ i. rw (largest_on (largest a b) c i, largest_on a b i, largest_on a (largest b c) i, largest_on b c i) (larger_assoc f _ _ _ (A i) (B i) (C i)))

  -- ---- boxes
  module _ (a b : Box) (A : PlainBox f a) (B : PlainBox f b) where
    -- a union of plain boxes is plain
    pub union_plain : PlainBox f (union a b)
    unfolding union
    union_plain = record { min = smallest_plain _ _ A.min B.min; max = largest_plain _ _ A.max B.max }

    -- which of two boxes comes first does not show in their union
    pub union_comm : union a b ≡ union b a
    unfolding union
    union_comm = λ j. record { min = smallest_comm _ _ A.min B.min j; max = largest_comm _ _ A.max B.max j }

    -- how three boxes are grouped does not show in their union
    pub union_assoc : (c : Box) → PlainBox f c → union (union a b) c ≡ union a (union b c)
    unfolding union
    union_assoc c C = λ j. record { min = smallest_assoc _ _ _ A.min B.min C.min j; max = largest_assoc _ _ _ A.max B.max C.max j }

  -- two that are joined in turn may change places
  pub union_swap : (a b c : Box) → PlainBox f a → PlainBox f b → PlainBox f c → union (union a b) c ≡ union (union a c) b
  union_swap a b c A B C = union_assoc a b A B c C ∙ ap (union a) (union_comm b c B C) ∙ sym (union_assoc a c A C b B)

  -- what stands for no box is plain: a fold of unions may begin with it
  pub empty_plain : PlainBox f (empty f)
  unfolding empty
  empty_plain = record {
    min = λ i. rw (on_by_axis (λ (j : Axis). Values.largest f) i) (largest_number_plain f);
    max = λ i. rw (on_by_axis (λ (j : Axis). Values.least f) i) (least_number_plain f);
  }

  -- a triangle with plain corners has a plain box
  pub box_plain : (t : Triangle) → PlainPoint f t.a → PlainPoint f t.b → PlainPoint f t.c → PlainBox f (box_of t)
  unfolding box_of
  box_plain t A B C = record { min = smallest_plain _ _ C (smallest_plain _ _ A B); max = largest_plain _ _ C (largest_plain _ _ A B) }
