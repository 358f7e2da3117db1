-- Elements one by one, slices one behind the other, and pieces of what remains: how lists that were written piece by piece are read again.
use mathlib.Core.Path.{◌≡◌, refl, sym, ap, ◌∙◌, subst}
use mathlib.Core.Logic.{⊎_elim}
use mathlib.Core.List.{List, [], ◌∷◌, ◌++◌}
use Prim.Native.Nat.{ℕ, zero, suc, ◌+◌, ◌*◌, ◌≤◌, ◌<◌}
use native.Mathlib.Nat.{mul-suc, mul-le-mul_left, le_of_suc-le-suc, eq-or-lt_of_le, one-mul}
use native.Mathlib.Omega.{arith}
use lib.ListN.{length, take, drop, get_or, length-drop, take-append-drop, get_or-append}
use lib.Seq.{length-take-le, take-append-le, drop-append-le, drop-drop, take-add, take-suc, take_at, get_or-drop, get_or-take, get_or-append_seam}
use Rattle.spec_tables.specs.Tables.{overwrite, concat_map, slice, Remaining}
use Rattle.spec_tables.proofs.Tables.{length_concat_map, concat_map_same, concat_map_slices, slice_concat_map, remaining_back}

-- each of n pieces of equal size ends within them, so reading it stays within the list
pub piece_within : (w n i : ℕ) → i < n → w * i + w ≤ w * n
piece_within w n i l = rw mul-suc at (mul-le-mul_left w l)

module _ {A : Type 0} where
  -- ---- slices
  -- a slice within the list has the length it was given
  pub length_slice : (s : List A) (at size : ℕ) → at + size ≤ length s → length (slice s at size) ≡ size
  length_slice s at size h = length-take-le size _ (simp length-drop (omega arith))

  -- an element of a slice is the list's at that distance from the slice's start
  pub get_d_slice : (d : A) (s : List A) (at size i : ℕ) → i < size → get_or (slice s at size) i d ≡ get_or s (at + i) d
  get_d_slice d s at size i l = get_or-take size (drop at s) i d l ∙ get_or-drop at s i d

  -- two slices, one behind the other, are one slice
  pub slice_then : (s : List A) (at a b : ℕ) → slice s at a ++ slice s (at + a) b ≡ slice s at (a + b)
  slice_then s at a b = ap (λ (l : List A). take a (drop at s) ++ take b l) (sym (drop-drop a at s)) ∙ sym (take-add a b (drop at s))

  -- slices of equal size, one behind the other from a place on, are one slice: entries that are read one by one are read whole
  pub concat_map_slices_at : (w : ℕ) (s : List A) (at n : ℕ) → concat_map (λ i. slice s (at + w * i) w) n ≡ slice s at (w * n)
  concat_map_slices_at w s at n =
      concat_map_same (λ i. slice s (at + w * i) w) (λ i. slice (drop at s) (w * i) w) n (λ i l. ap (take w) (sym (drop-drop (w * i) at s)))
      ∙ concat_map_slices w (drop at s) n

  -- what was written at the front is read there
  pub take_overwrite : (n : ℕ) (new old : List A) → length new ≡ n → take n (overwrite 0 new old) ≡ new
  unfolding overwrite
  take_overwrite n new old h = take_at new (drop (0 + length new) old) n h

  -- ---- elements one by one
  -- n single elements make a list of length n
  pub length_singles : (g : ℕ → A) (n : ℕ) → length (concat_map (λ i. g i ∷ []) n) ≡ n
  length_singles g n = length_concat_map (λ i. g i ∷ []) 1 n (λ i. refl) ∙ one-mul n

  -- a list that is read element by element is its slice: what a copying loop has written
  pub concat_map_get_d : (d : A) (xs : List A) (from n : ℕ) → from + n ≤ length xs → concat_map (λ i. get_or xs (from + i) d ∷ []) n ≡ slice xs from n
  unfolding concat_map
  concat_map_get_d d xs from zero h = refl
  concat_map_get_d d xs from (suc n) h =
      let l : n < length (drop from xs) = simp length-drop (omega arith) in
      rw (concat_map_get_d d xs from n (omega arith), take-suc (drop from xs) n d l, get_or-drop)

  -- of elements that were written one by one, each is read at its place
  pub get_d_concat_map : (d : A) (g : ℕ → A) (n i : ℕ) → i < n → get_or (concat_map (λ j. g j ∷ []) n) i d ≡ g i
  unfolding concat_map
  get_d_concat_map d g zero i h = absurd (never i h)
    where
      never : (i : ℕ) → i < 0 → ⊥
      never i h = omega arith
  get_d_concat_map d g (suc n) i h =
      let long : length (concat_map (λ j. g j ∷ []) n) ≡ n = length_singles g n in
      ⊎_elim
      (λ (e : i ≡ n). ap (λ (k : ℕ). get_or (concat_map (λ j. g j ∷ []) n ++ (g n ∷ [])) k d) (e ∙ sym long)
      ∙ get_or-append_seam (concat_map (λ j. g j ∷ []) n) (g n) [] d ∙ ap g (sym e))
      (λ (l : i < n). get_or-append (concat_map (λ j. g j ∷ []) n) (g n ∷ []) d i (omega arith) ∙ get_d_concat_map d g n i l)
      (eq-or-lt_of_le (le_of_suc-le-suc h))

  -- ---- what remains from a place on
  -- of pieces of equal size that remain, each is read at its place: how an entry of a table is found
  pub remaining_concat_map : (f : ℕ → List A) (w n : ℕ) (s : List A) (at : ℕ) (rest : List A) → ((j : ℕ) → length (f j) ≡ w)
      → Remaining s at (concat_map f n ++ rest) → (i : ℕ) → i < n
      → slice s (at + w * i) w ≡ f i
  remaining_concat_map f w n s at rest sized h i l =
      let long : length (concat_map f n) ≡ w * n = length_concat_map f w n sized in
      let m : w * i + w ≤ w * n = piece_within w n i l in
      let a : w * i ≤ length (concat_map f n) = omega arith in
      let b : w ≤ length (drop (w * i) (concat_map f n)) = simp length-drop (omega arith) in
      ap (take w) (sym (drop-drop (w * i) at s) ∙ ap (drop (w * i)) h.remaining ∙ drop-append-le (w * i) (concat_map f n) rest a)
      ∙ take-append-le w (drop (w * i) (concat_map f n)) rest b ∙ slice_concat_map f w n i sized l

  -- behind a front of n elements the rest remains: where reading goes on
  pub remaining_on : (n : ℕ) (s : List A) (at : ℕ) (a rest : List A) → length a ≡ n → Remaining s at (a ++ rest) → Remaining s (at + n) rest
  remaining_on n s at a rest e h = subst (λ (k : ℕ). Remaining s (at + k) rest) e (remaining_back s at a rest h)

  -- what stands at a place remains there, with all that is behind it: where reading starts
  pub remaining_slice : (s : List A) (at : ℕ) (a : List A) → at + length a ≤ length s → slice s at (length a) ≡ a → Remaining s at (a ++ drop (at + length a) s)
  remaining_slice s at a h e = record {
    within = omega arith;
    remaining =
        sym (take-append-drop (length a) (drop at s)) ∙ ap (λ (l : List A). l ++ drop (length a) (drop at s)) e
        ∙ ap (λ (l : List A). a ++ l) (drop-drop (length a) at s);
  }
