-- Three and six stores one behind the other are one overwrite; and a loop of single stores from the front of a list, up to its end.
use mathlib.Core.Path.{◌≡◌, sym, ap, ◌∙◌, subst}
use mathlib.Core.List.{List, [], ◌∷◌}
use Prim.Native.Nat.{ℕ, suc, ◌+◌, ◌≤◌, ◌<◌}
use native.Mathlib.Nat.{zero-add}
use native.Mathlib.Omega.{arith}
use lib.ListN.{length, set, take}
use lib.Seq.{take_all}
use Rattle.spec_tables.specs.Tables.{overwrite, concat_map}
use Rattle.spec_tables.proofs.Tables.{sets_overwrite}
use Rattle.spec_tables.proofs.Pieces.{take_overwrite, length_singles}
use Rattle.spec_tables.proofs.Runs.{Run, run_store, run_end}

module _ {A : Type 0} (at : ℕ) (old : List A) where
  -- three stores are one overwrite: a node's links
  pub three_stores : (a b c : A) → at + 3 ≤ length old → set (set (set old at a) (at + 1) b) (at + 2) c ≡ overwrite at (a ∷ b ∷ c ∷ []) old
  three_stores a b c h =
      let e : at + 1 ≡ suc at = omega arith in
      let f : at + 2 ≡ suc (suc at) = omega arith in
      rw (e, f) (sets_overwrite at (a ∷ b ∷ c ∷ []) old h)

  -- six stores are one overwrite: a node's box
  pub six_stores : (a b c d e f : A) → at + 6 ≤ length old
      → set (set (set (set (set (set old at a) (at + 1) b) (at + 2) c) (at + 3) d) (at + 4) e) (at + 5) f ≡ overwrite at (a ∷ b ∷ c ∷ d ∷ e ∷ f ∷ []) old
  six_stores a b c d e f h =
      let p : at + 1 ≡ suc at = omega arith in
      let q : at + 2 ≡ suc (suc at) = omega arith in
      let r : at + 3 ≡ suc (suc (suc at)) = omega arith in
      let s : at + 4 ≡ suc (suc (suc (suc at))) = omega arith in
      let t : at + 5 ≡ suc (suc (suc (suc (suc at)))) = omega arith in
      rw (p, q, r, s, t) (sets_overwrite at (a ∷ b ∷ c ∷ d ∷ e ∷ f ∷ []) old h)

-- turn of a loop that stores one element a turn, from the front of the list
pub run_store_front : {A : Type 0} (g : ℕ → A) (n : ℕ) (old out : List A) (i : ℕ) (v : A) → n ≤ length old → i < n
    → Run (λ j. g j ∷ []) 0 n old out i → v ≡ g i → Run (λ j. g j ∷ []) 0 n old (set out i v) (i + 1)
run_store_front {A} g n old out i v room l r e =
    subst (λ (k : ℕ). Run (λ j. g j ∷ []) 0 n old (set out k v) (i + 1)) (zero-add i) (run_store g 0 n old out i v (omega arith) l r e)

-- a list that is stored to from its front to its end is what was stored, whatever it was before
pub run_whole : {A : Type 0} (g : ℕ → A) (old out : List A) (i : ℕ) → length old ≤ i → Run (λ j. g j ∷ []) 0 (length old) old out i
    → out ≡ concat_map (λ j. g j ∷ []) (length old)
run_whole g old out i l r =
    sym (take_all (length old) out (omega (arith, r.long)))
    ∙ ap (take (length old)) (run_end (λ j. g j ∷ []) 0 (length old) old out i l r)
    ∙ take_overwrite (length old) (concat_map (λ j. g j ∷ []) (length old)) old (length_singles g (length old))
