-- What is refused of an STL, as code finds it: the size, the count, and the first corner that is no coordinate, looked for facet by facet.
use mathlib.Core.Path.{◌≡◌, sym, ap, ◌∙◌}
use mathlib.Core.List.{List, [], ◌∷◌}
use mathlib.Core.Logic.{⊎_elim}
use Prim.Native.Nat.{ℕ, zero, suc, ◌+◌, ◌*◌, ◌%◌, ◌≤◌, ◌<◌}
use native.Mathlib.Nat.{eq-or-lt_of_le, le_of_suc-le-suc}
use native.Mathlib.Numerals.{add-one}
use native.Mathlib.Omega.{arith}
use borrow.Author.Tests.{eqb-true, eq-eqb}
use lib.Dec.{eqb, ltb}
use lib.ListN.{length}
use lib.Ieee.{Float}
use Rattle.spec_tables.specs.Tables.{concat_map}
use Rattle.spec_lists.specs.Limits.{max_triangles}
use Rattle.spec_lists.specs.Refusals.{passes, refused_if, first_bad, first_refusal, ragged_refusal, none_refusal, too_many_refusal, coordinate_refusal, triangles_refusal}
use Rattle.spec_lists.proofs.Coordinates.{first_bad_within, bad_in_front, good_in_front}
use Rattle.spec_lists.proofs.Verdicts.{so}
use Rattle.spec_stl.specs.Stl.{stl_count, stl_size, corners_in, stl_triangles}
use Rattle.spec_stl.specs.Calls.{size_refusal}
use Rattle.spec_stl.proofs.Facets.{length_corners, length_facets, length_read, count_read}

-- ---- corners, facet by facet
module _ (s : List ℕ) where
  abbrev corners : ℕ → List Float
  corners n = concat_map (corners_in s) n

  -- facets behind a bad corner do not change which is the first
  bad_stays : (k n : ℕ) → k ≤ n → first_bad (corners k) < 9 * k → first_bad (corners n) ≡ first_bad (corners k)
  unfolding concat_map
  bad_stays k zero h bad = absurd (omega arith)
  bad_stays k (suc n) h bad =
      ⊎_elim
      (λ (e : k ≡ suc n). ap (λ (m : ℕ). first_bad (corners m)) (sym e))
      (λ (l : k < suc n).
      let same : first_bad (corners n) ≡ first_bad (corners k) = bad_stays k n (le_of_suc-le-suc l) bad in
      bad_in_front (corners n) (corners_in s n) (omega (arith, length_facets s n)) ∙ same)
      (eq-or-lt_of_le h)

  module _ (i : ℕ) (good : first_bad (corners i) ≡ 9 * i) where
    one_more : first_bad (corners (suc i)) ≡ 9 * i + first_bad (corners_in s i)
    unfolding concat_map
    one_more = rw (good_in_front (corners i) (corners_in s i) (good ∙ sym (length_facets s i)), length_facets s i)

    -- a turn that goes on: the corners of this facet are coordinates too
    pub corners_good : 9 ≤ first_bad (corners_in s i) → first_bad (corners (i + 1)) ≡ 9 * (i + 1)
    corners_good h = rw (add-one i, one_more) (omega (arith, first_bad_within (corners_in s i), length_corners s i))

    -- a turn that stops: the first bad corner of all facets is in this one
    pub corners_bad : (n : ℕ) → i < n → first_bad (corners_in s i) < 9 → 9 * i + first_bad (corners_in s i) ≡ first_bad (corners n)
    corners_bad n l h = sym (bad_stays (suc i) n l (omega (arith, one_more)) ∙ one_more)

-- ---- the tests
-- the tests of the list that is read, by the count and the corners: it is never ragged
pub triangles_by_count : (s : List ℕ) → triangles_refusal (stl_triangles s) ≡ first_refusal (refused_if (eqb (stl_count s) 0) 2 0
    ∷ refused_if (ltb max_triangles (stl_count s)) 3 0 ∷ refused_if (ltb (first_bad (stl_triangles s)) (9 * stl_count s)) 4 (first_bad (stl_triangles s)) ∷ [])
unfolding triangles_refusal ragged_refusal none_refusal too_many_refusal coordinate_refusal first_refusal
triangles_by_count s =
    let whole : (9 * stl_count s) % 9 ≡ 0 = omega arith in
    rw (length_read s, count_read s, eq-eqb _ 0 whole)

-- bytes that passed the test of their size are as many as the count says
pub size_passed : (s : List ℕ) → size_refusal s ≡ passes → length s ≡ stl_size (stl_count s)
unfolding size_refusal
size_passed s e = eqb-true (length s) (stl_size (stl_count s)) (so (eqb (length s) (stl_size (stl_count s))) 11 (length s) e)
