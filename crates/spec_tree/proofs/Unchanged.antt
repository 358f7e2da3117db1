-- The five checks say yes exactly where the tree check does: acceptance is what it was before a refusal said why.
-- Every call that refuses a tree cites these laws.
use mathlib.Core.Path.{◌≡◌, refl, sym, ap, ◌∙◌}
use mathlib.Core.Bool.{Bool, true, false, not}
use mathlib.Core.List.{List}
use Prim.Native.Nat.{ℕ}
use lib.Ieee.{Float}
use Rattle.spec_lists.specs.Reading.{box_at, triangle_count}
use Rattle.spec_lists.specs.Refusals.{Verdict, passes, refused, refuses}
use Rattle.spec_shapes.specs.Boxes.{Box}
use Rattle.spec_tree.specs.Accepted.{accepted}
use Rattle.spec_tree.specs.Reasons.{reason}
use Rattle.spec_tree.specs.Refusals.{tree_refusal}
use Rattle.spec_tree.proofs.Accepted.{accepted_listed, listed_accepted}
use Rattle.spec_tree.proofs.Passing.{listing_unrefused}
use Rattle.spec_tree.proofs.Passed.{unrefused_listing}
use Rattle.spec_tree.proofs.Places.{InTree, reason_placed}

module _ (box_at : ℕ → Box) (n : ℕ) (order links : List ℕ) (boxes : List Float) (nodes : ℕ) where
  accepted_unrefused : accepted box_at n order links boxes nodes ≡ true → reason box_at n order links boxes nodes ≡ passes
  accepted_unrefused h =
      let found = accepted_listed box_at n order links boxes nodes h in
      listing_unrefused box_at n order links boxes nodes found.0 found.1

  unrefused_accepted : reason box_at n order links boxes nodes ≡ passes → accepted box_at n order links boxes nodes ≡ true
  unrefused_accepted h =
      let found = unrefused_listing box_at n order links boxes nodes h in
      listed_accepted box_at n order links boxes nodes found.0 found.1

  -- the theorem: there is a reason exactly where the tree check says no
  pub acceptance_unchanged : refuses (reason box_at n order links boxes nodes) ≡ not (accepted box_at n order links boxes nodes)
  acceptance_unchanged = go (reason box_at n order links boxes nodes) (accepted box_at n order links boxes nodes) refl refl
    where
      go : (v : Verdict) (b : Bool) → reason box_at n order links boxes nodes ≡ v → accepted box_at n order links boxes nodes ≡ b → refuses v ≡ not b
      go passes b p q = ap not (sym (unrefused_accepted p) ∙ q)
      go (refused number place) true p q = ap refuses (sym p ∙ accepted_unrefused q)
      go (refused number place) false p q = refl

-- ---- over the lists of a call
module _ (triangles : List Float) (order links : List ℕ) (boxes : List Float) (nodes : ℕ) where
  -- what the tree check says yes to is not refused
  pub tree_passes : accepted (box_at triangles) (triangle_count triangles) order links boxes nodes ≡ true → tree_refusal triangles order links boxes nodes
      ≡ passes
  unfolding tree_refusal
  tree_passes = accepted_unrefused (box_at triangles) (triangle_count triangles) order links boxes nodes

  -- what is not refused is what the tree check says yes to
  pub tree_passed : tree_refusal triangles order links boxes nodes ≡ passes → accepted (box_at triangles) (triangle_count triangles) order links boxes nodes
      ≡ true
  unfolding tree_refusal
  tree_passed = unrefused_accepted (box_at triangles) (triangle_count triangles) order links boxes nodes

  -- the numbers that a tree is refused by, and how large the place can be: what an answer must have room for
  pub tree_placed : InTree (triangle_count triangles) (tree_refusal triangles order links boxes nodes)
  unfolding tree_refusal
  tree_placed = reason_placed (box_at triangles) (triangle_count triangles) order links boxes nodes
