-- Dipoles in a lent list: each is read where it was written, what stands behind them is as it was, and writing all of them again leaves
-- nothing of the first time.
use mathlib.Core.Path.{◌≡◌, refl, sym, ap, ◌∙◌}
use mathlib.Core.List.{List, ◌++◌}
use Prim.Native.Nat.{ℕ, ◌+◌, ◌-◌, ◌*◌, ◌≤◌, ◌<◌}
use native.Mathlib.Nat.{zero-add}
use native.Mathlib.Omega.{arith}
use lib.ListN.{length, get_or, drop, get_or-append}
use lib.Seq.{drop_at, get_or-drop, get_or-append-add}
use lib.Ieee.{Float, nan}
use Rattle.spec_tables.specs.Tables.{overwrite, concat_map}
use Rattle.spec_tables.proofs.Tables.{length_concat_map, slice_concat_map}
use Rattle.spec_tables.proofs.Pieces.{piece_within, get_d_slice}
use Rattle.spec_tree.specs.Trees.{point_from}
use Rattle.spec_dipoles.specs.Sums.{Dipole}
use Rattle.spec_dipoles.specs.Calls.{sixteen_of, dipole_at}

-- a list that is written twice from its front, equally far, holds what was written last
pub overwrite_again : {A : Type 0} (a b old : List A) → length a ≡ length b → overwrite 0 b (overwrite 0 a old) ≡ overwrite 0 b old
unfolding overwrite
overwrite_again {A} a b old e =
    ap (λ (l : List A). b ++ l)
    (ap (λ (k : ℕ). drop k (a ++ drop (0 + length a) old)) (zero-add (length b) ∙ sym e)
    ∙ drop_at a (drop (0 + length a) old) (length a) refl ∙ ap (λ (k : ℕ). drop (0 + k) old) e)

module _ (g : ℕ → Dipole) (n : ℕ) (old : List Float) where
  abbrev written : List Float
  written = concat_map (λ k. sixteen_of (g k)) n

  abbrev lent : List Float
  lent = overwrite 0 written old

  long : length written ≡ 16 * n
  long = length_concat_map (λ k. sixteen_of (g k)) 16 n (λ k. refl)

  -- number j of dipole k, at its place
  entry : (k i j : ℕ) → k < n → i ≡ 16 * k + j → j < 16 → get_or lent i nan ≡ get_or (sixteen_of (g k)) j nan
  unfolding overwrite
  entry k i j h e l =
      let rest : List Float = drop (0 + length written) old in
      let within : 16 * k + j < length written = omega (arith, long, piece_within 16 n k h) in
      ap (λ (m : ℕ). get_or (written ++ rest) m nan) e ∙ get_or-append written rest nan (16 * k + j) within
      ∙ sym (get_d_slice nan written (16 * k) 16 j l)
      ∙ ap (λ (xs : List Float). get_or xs j nan) (slice_concat_map (λ m. sixteen_of (g m)) 16 n k (λ m. refl) h)

  three : (k i j : ℕ) → k < n → i ≡ 16 * k + j → j + 3 ≤ 16 → point_from lent i ≡ point_from (sixteen_of (g k)) j
  three k i j h e l = λ t. record {
    x = entry k i j h e (omega arith) t;
    y = entry k (i + 1) (j + 1) h (omega arith) (omega arith) t;
    z = entry k (i + 2) (j + 2) h (omega arith) (omega arith) t;
  }

  -- a dipole is read where it was written
  pub dipole_read : (k : ℕ) → k < n → dipole_at lent k ≡ g k
  unfolding dipole_at
  dipole_read k h = λ t. record {
    first = three k (16 * k) 0 h (omega arith) (omega arith) t;
    second = record {
      x = three k (16 * k + 3) 3 h refl (omega arith) t;
      y = three k (16 * k + 3 + 3) 6 h (omega arith) (omega arith) t;
      z = three k (16 * k + 3 + 6) 9 h (omega arith) (omega arith) t;
    };
    radius = entry k (16 * k + 12) 12 h refl (omega arith) t;
    centre = three k (16 * k + 13) 13 h refl (omega arith) t;
  }

  behind : (i : ℕ) → 16 * n ≤ i → get_or lent i nan ≡ get_or old i nan
  unfolding overwrite
  behind i l =
      let rest : List Float = drop (0 + length written) old in
      let there : i ≡ length written + (i - 16 * n) = omega (arith, long) in
      let back : 0 + length written + (i - 16 * n) ≡ i = omega (arith, long) in
      ap (λ (m : ℕ). get_or (written ++ rest) m nan) there ∙ get_or-append-add written rest (i - 16 * n) nan
      ∙ get_or-drop (0 + length written) old (i - 16 * n) nan ∙ ap (λ (m : ℕ). get_or old m nan) back

  behind_three : (i : ℕ) → 16 * n ≤ i → point_from lent i ≡ point_from old i
  behind_three i l = λ t. record { x = behind i l t; y = behind (i + 1) (omega arith) t; z = behind (i + 2) (omega arith) t }

  -- behind the dipoles that were written stands what stood there
  pub dipole_behind : (k : ℕ) → n ≤ k → dipole_at lent k ≡ dipole_at old k
  unfolding dipole_at
  dipole_behind k l = λ t. record {
    first = behind_three (16 * k) (omega arith) t;
    second = record {
      x = behind_three (16 * k + 3) (omega arith) t;
      y = behind_three (16 * k + 3 + 3) (omega arith) t;
      z = behind_three (16 * k + 3 + 6) (omega arith) t;
    };
    radius = behind (16 * k + 12) (omega arith) t;
    centre = behind_three (16 * k + 13) (omega arith) t;
  }
