-- Slices of a list that was overwritten: the slice that was written, and the slices in front of it and behind it.
use mathlib.Core.Path.{◌≡◌, refl, sym, ap, ◌∙◌}
use mathlib.Core.Logic.{⊎_elim}
use mathlib.Core.List.{List, [], ◌∷◌, ◌++◌}
use Prim.Native.Nat.{ℕ, zero, suc, ◌+◌, ◌-◌, ◌≤◌, ◌<◌}
use native.Mathlib.Nat.{eq-or-lt_of_le, le_of_suc-le-suc}
use native.Mathlib.Omega.{arith}
use lib.ListN.{length, take, drop, get_or, length-drop, get_or-append}
use lib.Seq.{take-nil, drop-nil, length-take-le, take_at, drop_at, drop-drop, take-take, take-append-le, drop-append-le, get_or_at}
use Rattle.spec_tables.specs.Tables.{overwrite, concat_map, slice}
use Rattle.spec_tables.proofs.Tables.{length_concat_map}

module _ {A : Type 0} where
  drop_take : (b n : ℕ) (l : List A) → drop b (take n l) ≡ take (n - b) (drop b l)
  drop_take zero n l = let e : n ≡ n - 0 = omega arith in ap (λ (k : ℕ). take k l) e
  drop_take (suc b) zero l = let e : 0 ≡ 0 - suc b = omega arith in drop-nil (suc b) ∙ ap (λ (k : ℕ). take k (drop (suc b) l)) e
  drop_take (suc b) (suc n) [] = sym (take-nil (suc n - suc b))
  drop_take (suc b) (suc n) (x ∷ l) = let e : n - b ≡ suc n - suc b = omega arith in drop_take b n l ∙ ap (λ (k : ℕ). take k (drop b l)) e

  -- a slice that is lent and comes back is an overwrite
  pub put_back : (at size : ℕ) (new old : List A) → length new ≡ size → take at old ++ (new ++ drop size (drop at old)) ≡ overwrite at new old
  unfolding overwrite
  put_back at size new old e = ap (λ (l : List A). take at old ++ (new ++ l)) (drop-drop size at old ∙ ap (λ (k : ℕ). drop (at + k) old) (sym e))

  module _ (at : ℕ) (new old : List A) (room : at + length new ≤ length old) where
    -- the slice that was written holds what was written
    pub slice_written : (size : ℕ) → length new ≡ size → slice (overwrite at new old) at size ≡ new
    unfolding overwrite
    slice_written size e =
        ap (take size) (drop_at (take at old) (new ++ drop (at + length new) old) at (length-take-le at old (omega arith)))
        ∙ take_at new (drop (at + length new) old) size e

    -- a slice in front of what was written is as it was
    pub slice_in_front : (b size : ℕ) → b + size ≤ at → slice (overwrite at new old) b size ≡ slice old b size
    unfolding overwrite
    slice_in_front b size h =
        let front : length (take at old) ≡ at = length-take-le at old (omega arith) in
        let within : b ≤ length (take at old) = omega arith in
        let long : size ≤ length (drop b (take at old)) = omega (arith, length-drop b (take at old)) in
        ap (take size) (drop-append-le b (take at old) (new ++ drop (at + length new) old) within)
        ∙ take-append-le size (drop b (take at old)) (new ++ drop (at + length new) old) long
        ∙ ap (take size) (drop_take b at old)
        ∙ take-take size (at - b) (drop b old) (omega arith)

    -- a slice behind what was written is as it was
    pub slice_behind : (b size : ℕ) → at + length new ≤ b → slice (overwrite at new old) b size ≡ slice old b size
    unfolding overwrite
    slice_behind b size h =
        let rest : List A = drop (at + length new) old in
        let k : ℕ = b - at - length new in
        let past : at + length new + k ≡ b = omega arith in
        ap (take size)
        (ap (λ (n : ℕ). drop n (take at old ++ (new ++ rest))) (sym past)
        ∙ sym (drop-drop k (at + length new) (take at old ++ (new ++ rest)))
        ∙ ap (drop k) (sym (drop-drop (length new) at (take at old ++ (new ++ rest)))
        ∙ ap (drop (length new)) (drop_at (take at old) (new ++ rest) at (length-take-le at old (omega arith))) ∙ drop_at new rest (length new) refl)
        ∙ drop-drop k (at + length new) old
        ∙ ap (λ (n : ℕ). drop n old) past)

  -- ---- pieces of one element
  -- the concatenation of one element a number has the t-th element at place t
  pub concat_map_at : (g : ℕ → A) (n t : ℕ) (d : A) → t < n → get_or (concat_map (λ k. g k ∷ []) n) t d ≡ g t
  unfolding concat_map
  concat_map_at g zero t d h = absurd (omega arith)
  concat_map_at g (suc n) t d h =
      let long : length (concat_map (λ k. g k ∷ []) n) ≡ n = length_concat_map (λ k. g k ∷ []) 1 n (λ k. refl) ∙ omega arith in
      ⊎_elim
      (λ (e : t ≡ n). rw e (get_or_at (concat_map (λ k. g k ∷ []) n) (g n) [] d n long))
      (λ (l : t < n). get_or-append (concat_map (λ k. g k ∷ []) n) (g n ∷ []) d t (omega arith) ∙ concat_map_at g n t d l)
      (eq-or-lt_of_le (le_of_suc-le-suc h))

  -- an entry of the front that was written is the entry that was written there
  pub front_at : (new old : List A) (t : ℕ) (d : A) → t < length new → get_or (overwrite 0 new old) t d ≡ get_or new t d
  unfolding overwrite
  front_at new old t d h = get_or-append new (drop (0 + length new) old) d t h
