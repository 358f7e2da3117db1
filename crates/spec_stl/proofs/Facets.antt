-- How long the pieces of an STL are, so that each has its room and is found at its place, and zeros that are stored one by one.
use mathlib.Core.Path.{◌≡◌, refl, ap, ◌∙◌}
use mathlib.Core.List.{List, [], ◌∷◌}
use Prim.Native.Nat.{ℕ, zero, suc, ◌+◌, ◌*◌, ◌≤◌}
use native.Mathlib.Numerals.{add-one}
use native.Mathlib.Omega.{arith}
use lib.ListN.{length, replicate, length-replicate, replicate-append-replicate}
use Rattle.spec_tables.specs.Tables.{overwrite, concat_map, Put}
use Rattle.spec_tables.proofs.Tables.{length_concat_map}
use Rattle.spec_tables.proofs.Pieces.{length_singles}
use Rattle.spec_tables.proofs.Runs.{Run, run_end}
use Rattle.spec_lists.specs.Reading.{triangle_count}
use Rattle.spec_stl.specs.Stl.{stl_count, corners_in, stl_triangles, zeros}

-- ---- read
-- a facet has nine numbers: a triangle of the list
pub length_corners : (s : List ℕ) (i : ℕ) → length (corners_in s i) ≡ 9
unfolding corners_in
length_corners s i = length_singles _ 9

-- so many facets are that many triangles: the room that reading them needs
pub length_facets : (s : List ℕ) (n : ℕ) → length (concat_map (corners_in s) n) ≡ 9 * n
length_facets s n = length_concat_map (corners_in s) 9 n (length_corners s)

-- the list that is read has nine numbers a triangle
pub length_read : (s : List ℕ) → length (stl_triangles s) ≡ 9 * stl_count s
unfolding stl_triangles
length_read s = length_facets s (stl_count s)

-- the list that is read has as many triangles as the bytes say
pub count_read : (s : List ℕ) → triangle_count (stl_triangles s) ≡ stl_count s
unfolding triangle_count
count_read s = rw (length_read s) (omega arith)

-- ---- written
-- zeros one by one are that many zeros
zeros_singles : (n : ℕ) → concat_map (λ i. 0 ∷ []) n ≡ zeros n
unfolding concat_map
zeros_singles zero = refl
zeros_singles (suc n) = rw (zeros_singles n) (replicate-append-replicate n 1 0 ∙ ap (λ (k : ℕ). replicate k 0) (add-one n))

-- end of a loop that stores zeros: that many are put
pub zeros_end : (at n : ℕ) (old out : List ℕ) (i : ℕ) → at + n ≤ length old → n ≤ i → Run (λ j. 0 ∷ []) at n old out i
    → Put at (zeros n) old out (at + i) × (at + i ≡ at + n)
zeros_end at n old out i room l r =
    let e : i ≡ n = omega (arith, r.within) in
    let long : length (zeros n) ≡ n = length-replicate n 0 in (
      record {
        written = run_end (λ j. 0 ∷ []) at n old out i l r ∙ ap (λ (new : List ℕ). overwrite at new old) (zeros_singles n);
        behind = omega arith;
        within = omega arith;
      },
      omega arith,
    )
