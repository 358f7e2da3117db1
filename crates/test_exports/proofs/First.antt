-- What is measured for the first point, by whether the check passes.
use mathlib.Core.Path.{◌≡◌, refl, ◌∙◌, ap}
use mathlib.Core.Bool.{Bool, true, false, not, cond, true≢false}
use mathlib.Core.List.{List, [], ◌∷◌}
use Prim.Native.Nat.{ℕ}
use native.Mathlib.Omega.{arith}
use lib.Dec.{leb}
use lib.ListN.{length}
use lib.Ieee.{Float, Format}
use Rattle.spec_lists.specs.Reading.{box_at, triangle_count, point_at}
use Rattle.spec_lists.specs.Refusals.{Verdict, passes, refused, refuses, first_refusal}
use Rattle.spec_lists.proofs.Verdicts.{all_pass}
use Rattle.spec_lists.proofs.Passed.{triangles_passed}
use Rattle.spec_tree.specs.Refusals.{tree_refusal, check_refusal}
use Rattle.spec_tree.proofs.Unchanged.{acceptance_unchanged, tree_passed}
use Rattle.spec_search.specs.Calls.{Searchable}
use Rattle.test_exports.specs.Answered.{measured_at, measured_first}
use Rattle.test_exports.proofs.Branches.{when, unless}

-- a row of two tests that refuses, the second of them where b fails
stopped : (v test : Verdict) (b : Bool) (x number place : ℕ) → refused number place ≡ first_refusal (v ∷ test ∷ []) → refuses test ≡ not b
    → 0 ≡ cond (refuses v) 0 (cond b x 0)
unfolding first_refusal
stopped (refused n p) test b x number place e a = refl
stopped passes (refused n p) true x number place e a = absurd (true≢false a)
stopped passes (refused n p) false x number place e a = refl
stopped passes passes b x number place e a = let z : ◌≡◌ {A = ℕ} 0 1 = cc in omega arith

module _ (f : Format) (triangles : List Float) (order links : List ℕ) (boxes : List Float) (nodes : ℕ) where
  -- nothing, where the check refuses
  pub nothing_measured : (points : List Float) (distance : Float) (rule most number place : ℕ)
      → refused number place ≡ check_refusal triangles order links boxes nodes
      → 0 ≡ measured_first f triangles order links boxes nodes points distance rule most
  unfolding measured_first check_refusal tree_refusal
  nothing_measured points distance rule most number place e =
      stopped _ _ _ _ number place e (acceptance_unchanged (box_at triangles) (triangle_count triangles) order links boxes nodes)

  -- lists that the check passes can be searched
  pub searchable : check_refusal triangles order links boxes nodes ≡ passes → Searchable triangles order links boxes nodes
  unfolding check_refusal
  searchable p =
      let each = all_pass _ p in
      record { triangles_good = triangles_passed _ each.0; tree_accepted = tree_passed _ _ _ _ _ each.1.0 }

  -- where it passes, the first point decides
  pub measured : (points : List Float) (distance : Float) (rule most n : ℕ) → check_refusal triangles order links boxes nodes ≡ passes
      → n ≡ cond (leb 3 (length points)) (measured_at f triangles order links boxes nodes distance rule most (point_at points 0)) 0
      → n ≡ measured_first f triangles order links boxes nodes points distance rule most
  unfolding measured_first check_refusal
  measured points distance rule most n p e =
      let each = all_pass _ p in
      e ∙ when _ _ _ (tree_passed _ _ _ _ _ each.1.0) ∙ unless _ _ _ (ap refuses each.0)
