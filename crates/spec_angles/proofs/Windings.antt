-- The loops that make winding numbers: the sum over triangles, one a turn (`Summed`), and the lent list, one number a turn (`AboutPut`).
-- Then what stands in that list when the call is done, or refused.
use mathlib.Core.Path.{◌≡◌, refl, ap, ◌∙◌}
use mathlib.Core.Bool.{true}
use mathlib.Core.List.{List, [], ◌∷◌}
use Prim.Native.Nat.{ℕ, ◌+◌, ◌*◌, ◌≤◌, ◌<◌}
use native.Mathlib.Numerals.{add-one}
use native.Mathlib.Omega.{arith}
use lib.ListN.{length, set}
use lib.Ieee.{Float, Format, add, mul, div}
use Rattle.spec_numbers.specs.Values.{zero}
use Rattle.spec_tables.specs.Tables.{overwrite, concat_map}
use Rattle.spec_tables.proofs.Runs.{Run, run_start, run_end}
use Rattle.spec_tables.proofs.Stores.{run_store_front}
use Rattle.spec_shapes.specs.Points.{Point}
use Rattle.spec_shapes.specs.Triangles.{Triangle}
use Rattle.spec_lists.specs.Reading.{triangle_at, triangle_count, point_at, point_count}
use Rattle.spec_lists.specs.Refusals.{Verdict, passes, refuses}
use Rattle.spec_lists.proofs.Verdicts.{all_pass, refusal_leaves}
use Rattle.spec_lists.proofs.Passed.{room_passed}
use Rattle.spec_angles.specs.Winding.{solid_angle, sum_of, winding_number, pi, four}
use Rattle.spec_angles.specs.Windings.{winding_about, winding_at, winding_refusal, written, after_winding}

-- ---- the sum: k of the triangles are in it
pub record Summed (f : Format) (triangle : ℕ → Triangle) (q : Point) (count : ℕ) (sum : Float) (k : ℕ) : Type 0 where
  pub within : k ≤ count
  pub is : sum ≡ sum_of f triangle q k

module _ (f : Format) (triangle : ℕ → Triangle) (q : Point) (count : ℕ) where
  -- the sum begins at zero, with no triangle in it
  pub sum_start : Summed f triangle q count zero 0
  unfolding sum_of
  sum_start = record { within = omega arith; is = refl }

  -- a turn of the loop adds the next triangle's solid angle
  pub sum_more : (sum angle : Float) (t : Triangle) (k : ℕ) → k < count → Summed f triangle q count sum k → t ≡ triangle k → angle ≡ solid_angle f t q
      → Summed f triangle q count (add f sum angle) (k + 1)
  unfolding sum_of
  sum_more sum angle t k l s T' A = record { within = omega arith; is = rw (add-one k, s.is, A, T') refl }

  -- with every triangle in it, the sum over 4 PI is the winding number
  pub sum_end : (sum : Float) (k : ℕ) → count ≤ k → Summed f triangle q count sum k → div f sum (mul f four (pi f)) ≡ winding_number f triangle count q
  unfolding winding_number
  sum_end sum k l s =
      let e : k ≡ count = omega (arith, s.within) in
      rw (s.is, e)

-- the winding number of as many triangles as a list has is that of the list
pub number_about : (f : Format) (triangles : List Float) (q : Point) (count : ℕ) → count ≡ triangle_count triangles
    → winding_number f (triangle_at triangles) count q ≡ winding_about f triangles q
unfolding winding_about
number_about f triangles q count C = rw C

-- ---- a lent list: the numbers about the first k points stand in it, whatever is asked about a point
pub record AboutPut (about : Point → Float) (points old : List Float) (count : ℕ) (out : List Float) (k : ℕ) : Type 0 where
  pub run : Run (λ j. about (point_at points (3 * j)) ∷ []) 0 count old out k

module _ (about : Point → Float) (points old : List Float) (count : ℕ) where
  -- before the first turn the lent list is as it was
  pub about_start : AboutPut about points old count old 0
  about_start = record { run = run_start _ 1 0 count old }

  -- a turn of the loop stores the next point's number
  pub about_more : (out : List Float) (k : ℕ) (q : Point) (w : Float) → count ≤ length old → k < count → AboutPut about points old count out k
      → q ≡ point_at points (3 * k) → w ≡ about q → AboutPut about points old count (set out k w) (k + 1)
  about_more out k q w room l h Q W = record {
    run = run_store_front (λ j. about (point_at points (3 * j))) count old out k w room l h.run (W ∙ ap about Q);
  }

  -- after the last turn the numbers about all points stand at its front
  pub about_end : (out : List Float) (k : ℕ) → count ≡ point_count points → count ≤ k → AboutPut about points old count out k
      → out ≡ overwrite 0 (concat_map (λ j. about (point_at points (3 * j)) ∷ []) (point_count points)) old
  about_end out k C l h =
      run_end _ 0 count old out k l h.run
      ∙ ap (λ (n : ℕ). overwrite 0 (concat_map (λ j. about (point_at points (3 * j)) ∷ []) n) old) C

-- with winding numbers it is as the definition writes it
pub windings_end : (f : Format) (triangles points old : List Float) (count : ℕ) (out : List Float) (k : ℕ) → count ≡ point_count points → count ≤ k
    → AboutPut (winding_about f triangles) points old count out k → out ≡ written f triangles points old
unfolding written winding_at
windings_end f triangles points old count out k C l h = about_end (winding_about f triangles) points old count out k C l h

-- ---- the call
module _ (triangles points old : List Float) where
  -- a call that refuses keeps its contract by leaving the lent list as it was
  pub as_it_was : (f : Format) (v : Verdict) → v ≡ winding_refusal triangles points (length old) → refuses v ≡ true → old ≡ after_winding f triangles points old
  unfolding after_winding
  as_it_was f v is h = rw (← is) (refusal_leaves v (written f triangles points old) old h)

  -- a call that passed its tests has room for a number a point
  pub room_for_all : winding_refusal triangles points (length old) ≡ passes → point_count points ≤ length old
  unfolding winding_refusal
  room_for_all h = room_passed (length old) (point_count points) (all_pass _ h).1.0

  -- a call that passed its tests keeps its contract by writing every number
  pub is_written : (f : Format) (new : List Float) → winding_refusal triangles points (length old) ≡ passes → new ≡ written f triangles points old
      → new ≡ after_winding f triangles points old
  unfolding after_winding
  is_written f new h e = rw (e, h)
