-- A loop that asks of each box of a slice whether it meets a plane, and stops at the first that does not: the first test of the median rule.
use mathlib.Core.Path.{◌≡◌, refl, sym, ap, ◌∙◌}
use mathlib.Core.Bool.{Bool, true, false, not, ◌&&◌}
use mathlib.Core.List.{List, map}
use Prim.Native.Nat.{ℕ, suc, ◌+◌, ◌≤◌, ◌<◌}
use lib.ListN.{length, get_or, drop}
use lib.Ieee.{Format}
use Rattle.spec_shapes.specs.Boxes.{Box}
use Rattle.spec_shapes.specs.Planes.{Plane, meets_box}
use Rattle.spec_splits.specs.Median.{all_meet}
use Rattle.spec_splits.proofs.Turns.{look_here, look_on, look_ended}

-- a test of `!b` that passed says that b fails
pub not_true : (b : Bool) → not b ≡ true → b ≡ false
not_true true h = sym h
not_true false h = refl

-- a test of `!b` that failed says that b holds
pub not_false : (b : Bool) → not b ≡ false → b ≡ true
not_false true h = refl
not_false false h = sym h

module _ (f : Format) (plane : Plane) (g : ℕ → Box) (l : List ℕ) (i : ℕ) (whole : Bool) where
  remaining : List ℕ → ℕ → Bool
  remaining m k = all_meet f plane (map g m)

  -- a box that does not meet the plane settles it: not all do
  pub meeting_stops : i < length l → meets_box f plane (g (get_or l i 0)) ≡ false → all_meet f plane (map g (drop i l)) ≡ whole → false ≡ whole
  unfolding remaining all_meet
  meeting_stops h e inv = sym (ap (λ (b : Bool). b && all_meet f plane (map g (drop (suc i) l))) e) ∙ look_here 0 remaining l i whole h inv

  -- a box that meets the plane leaves the answer to those that remain
  pub meeting_goes_on : i < length l → meets_box f plane (g (get_or l i 0)) ≡ true → all_meet f plane (map g (drop i l)) ≡ whole
      → all_meet f plane (map g (drop (i + 1) l)) ≡ whole
  unfolding remaining all_meet
  meeting_goes_on h e inv = look_on 0 remaining l i whole h (ap (λ (b : Bool). b && all_meet f plane (map g (drop (suc i) l))) e) inv

  -- at the end all have met the plane
  pub meeting_ends : length l ≤ i → all_meet f plane (map g (drop i l)) ≡ whole → true ≡ whole
  unfolding remaining all_meet
  meeting_ends h inv = look_ended 0 remaining l i whole h inv
