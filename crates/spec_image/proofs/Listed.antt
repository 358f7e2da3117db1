-- The boxes in the listing of a tree have plain numbers. So they fit the bytes of an image.
use mathlib.Core.List.{List, [], ◌∷◌, ◌++◌}
use Prim.Native.Nat.{ℕ, ◌<◌}
use native.Mathlib.Omega.{arith}
use lib.ListN.{length}
use lib.Ieee.{Format}
use Rattle.spec_tables.specs.Each.{Each}
use Rattle.spec_tables.proofs.Each.{each_append, each_in_front, each_behind}
use Rattle.spec_numbers.specs.Axes.{X, Y, Z}
use Rattle.spec_numbers.specs.Plain.{Plain}
use Rattle.spec_shapes.specs.Boxes.{Box, union}
use Rattle.spec_shapes.specs.Plain.{PlainBox}
use Rattle.spec_shapes.proofs.Plain.{union_plain}
use Rattle.spec_tree.specs.Trees.{Tree, leaf, branch, numbers, Filled, joined_to, joined, box_over, six_of, boxes_of}

-- ---- the boxes: those of the triangles, joined
module _ (f : Format) (box_at : ℕ → Box) where
  abbrev Plains : List ℕ → Type 0
  Plains ks = Each (λ (k : ℕ). PlainBox f (box_at k)) ks

  joined_to_plain : (b : Box) (ks : List ℕ) → PlainBox f b → Plains ks → PlainBox f (joined_to box_at b ks)
  unfolding joined_to
  joined_to_plain b [] p h = p
  joined_to_plain b (k ∷ ks) p h = joined_to_plain (union b (box_at k)) ks (union_plain f b (box_at k) p h.0) h.1

  joined_plain : (ks : List ℕ) → 0 < length ks → Plains ks → PlainBox f (joined box_at ks)
  unfolding joined
  joined_plain [] some h = absurd (none some)
    where
      none : 0 < length {A = ℕ} [] → ⊥
      none l = omega arith
  joined_plain (k ∷ ks) some h = joined_to_plain (box_at k) ks h.0 h.1

  over_plain : (t : Tree) → Filled t → Plains (numbers t) → PlainBox f (box_over box_at t)
  unfolding box_over numbers
  over_plain (leaf slice) some h = joined_plain slice some h
  over_plain (branch l r) some h =
      union_plain f _ _ (over_plain l some.0 (each_in_front _ (numbers l) (numbers r) h)) (over_plain r some.1 (each_behind _ (numbers l) (numbers r) h))

  six_plain : (b : Box) → PlainBox f b → Each (Plain f) (six_of b)
  six_plain b p = (p.min X, (p.min Y, (p.min Z, (p.max X, (p.max Y, (p.max Z, tt))))))

  -- the boxes of a tree are plain where its triangles' boxes are, so the format holds their numbers
  pub boxes_plain : (t : Tree) → Filled t → Plains (numbers t) → Each (Plain f) (boxes_of box_at t)
  unfolding boxes_of numbers
  boxes_plain (leaf slice) some h = six_plain _ (joined_plain slice some h)
  boxes_plain (branch l r) some h =
      each_append (Plain f) (boxes_of box_at l ++ boxes_of box_at r) _
      (each_append (Plain f) (boxes_of box_at l) (boxes_of box_at r) (boxes_plain l some.0 (each_in_front _ (numbers l) (numbers r) h))
      (boxes_plain r some.1 (each_behind _ (numbers l) (numbers r) h)))
      (six_plain _ (over_plain (branch l r) some h))
