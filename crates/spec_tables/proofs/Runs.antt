-- The invariant of a loop that writes pieces of equal size one behind the other: its start, its turn and its end.
use mathlib.Core.Path.{◌≡◌, refl, sym, ap, ◌∙◌, subst}
use mathlib.Core.List.{List, [], ◌∷◌}
use Prim.Native.Nat.{ℕ, suc, ◌+◌, ◌*◌, ◌≤◌, ◌<◌}
use native.Mathlib.Nat.{mul-le-mul_left, mul-suc, zero-add}
use native.Mathlib.Numerals.{add-one}
use native.Mathlib.Omega.{arith}
use lib.ListN.{length, get_or, set}
use lib.Seq.{take-length}
use Rattle.spec_tables.specs.Tables.{overwrite, concat_map, Put}
use Rattle.spec_tables.proofs.Tables.{overwrite_none, length_overwrite, concat_map_more, concat_map_same, sets_overwrite, put_long, put_none, put_more}
use Rattle.spec_tables.proofs.Pieces.{concat_map_get_d}

-- i of n pieces stand in out, from at on
pub record Run {A : Type 0} (f : ℕ → List A) (at n : ℕ) (old : List A) (out : List A) (i : ℕ) : Type 0 where
  pub within : i ≤ n
  pub filled : out ≡ overwrite at (concat_map f i) old
  pub long : length out ≡ length old

module _ {A : Type 0} (f : ℕ → List A) (w at n : ℕ) (old : List A) where
  -- start: nothing is written
  pub run_start : Run f at n old old 0
  unfolding concat_map
  run_start = record { within = omega arith; filled = sym (overwrite_none at old); long = refl }

  -- each piece has room
  run_room : (i : ℕ) → i < n → at + w * n ≤ length old → at + w * i + w ≤ length old
  run_room i l room =
      let m : w * suc i ≤ w * n = mul-le-mul_left w l in
      let m' : w * i + w ≤ w * n = rw mul-suc at m in
      omega arith

  -- turn: the next piece is written behind the others
  pub run_more : (out now : List A) (i : ℕ) → ((j : ℕ) → length (f j) ≡ w) → at + w * n ≤ length old → i < n → Run f at n old out i
      → now ≡ overwrite (at + w * i) (f i) out → Run f at n old now (i + 1)
  run_more out now i sized room l r e =
      let here : length (f i) ≡ w = sized i in
      let long : length out ≡ length old = r.long in
      let fit : at + w * i + w ≤ length old = run_room i l room in
      record {
        within = omega arith;
        filled =
            e ∙ ap (overwrite (at + w * i) (f i)) r.filled ∙ concat_map_more f w at i old sized fit
            ∙ ap (λ (k : ℕ). overwrite at (concat_map f k) old) (sym (add-one i));
        long = ap length e ∙ length_overwrite (at + w * i) (f i) out (omega arith) ∙ long;
      }

-- end: all pieces are written, and all else is as it was
pub run_end : {A : Type 0} (f : ℕ → List A) (at n : ℕ) (old out : List A) (i : ℕ) → n ≤ i → Run f at n old out i → out ≡ overwrite at (concat_map f n) old
run_end f at n old out i l r =
    let e : i ≡ n = omega (arith, r.within) in
    r.filled ∙ ap (λ (k : ℕ). overwrite at (concat_map f k) old) e

-- a store overwrites one element
set_overwrite : {A : Type 0} (at : ℕ) (v : A) (old : List A) → at < length old → set old at v ≡ overwrite at (v ∷ []) old
set_overwrite at v old h = sets_overwrite at (v ∷ []) old (omega arith)

-- turn of a loop that stores one element a turn
pub run_store : {A : Type 0} (g : ℕ → A) (at n : ℕ) (old out : List A) (i : ℕ) (v : A) → at + n ≤ length old → i < n
    → Run (λ j. g j ∷ []) at n old out i → v ≡ g i → Run (λ j. g j ∷ []) at n old (set out (at + i) v) (i + 1)
run_store {A} g at n old out i v room l r e =
    let one : at + i ≡ at + 1 * i = omega arith in
    let long : length out ≡ length old = r.long in
    run_more (λ j. g j ∷ []) 1 at n old out (set out (at + i) v) i (λ j. refl) (omega arith) l r
    (ap (λ (x : A). set out (at + i) x) e ∙ set_overwrite (at + i) (g i) out (omega arith) ∙ ap (λ (k : ℕ). overwrite k (g i ∷ []) out) one)

-- turn of a loop that writes from the front of the list
pub run_front : {A : Type 0} (f : ℕ → List A) (w n : ℕ) (old out now : List A) (i : ℕ) → ((j : ℕ) → length (f j) ≡ w) → w * n ≤ length old → i < n
    → Run f 0 n old out i → now ≡ overwrite (w * i) (f i) out → Run f 0 n old now (i + 1)
run_front f w n old out now i sized room l r e =
    run_more f w 0 n old out now i sized (rw zero-add room) l r (e ∙ ap (λ (k : ℕ). overwrite k (f i) out) (sym (zero-add (w * i))))

-- ---- a loop that keeps the place behind what it put
-- i of n pieces of w elements were put from at on, and next is the place behind them
pub record Puts {A : Type 0} (f : ℕ → List A) (w at n : ℕ) (old out : List A) (next i : ℕ) : Type 0 where
  pub within : i ≤ n
  pub put : Put at (concat_map f i) old out next
  pub behind : next ≡ at + w * i
  pub long : length out ≡ length old

module _ {A : Type 0} (f : ℕ → List A) (w at n : ℕ) where
  -- start: nothing is put, and the room for all pieces is known
  pub puts_start : (old : List A) → at + w * n ≤ length old → Puts f w at n old old at 0
  unfolding concat_map
  puts_start old room = record { within = omega arith; put = put_none at old (omega arith); behind = omega arith; long = refl }

  -- turn: the next piece is put at the place that was kept
  pub puts_more : {old mid out : List A} {next end i : ℕ} → i < n → Puts f w at n old mid next i → Put next (f i) mid out end → end ≡ next + w
      → Puts f w at n old out end (i + 1)
  puts_more {old} {out = out} {end = end} {i} l r p e =
      let here : Put at (concat_map f (i + 1)) old out end = put_more f i r.put p in
      let turn : w * (i + 1) ≡ w * i + w = rw (add-one, mul-suc) in
      record { within = omega arith; put = here; behind = omega (arith, r.behind); long = put_long here }

  -- end: all pieces are put, and the place behind them is known
  pub puts_end : {old out : List A} {next i : ℕ} → n ≤ i → Puts f w at n old out next i → Put at (concat_map f n) old out next × (next ≡ at + w * n)
  puts_end {old} {out} {next} {i} l r =
      let e : i ≡ n = omega (arith, r.within) in
      (subst (λ (k : ℕ). Put at (concat_map f k) old out next) e r.put, r.behind ∙ ap (λ (k : ℕ). at + w * k) e)

-- ---- a loop that copies a list, element by element
-- end of a loop that copies a list element by element: the list is put whole
pub copy_end : {A : Type 0} (d : A) (word : List A) (at : ℕ) (old out : List A) (i : ℕ) → at + length word ≤ length old → length word ≤ i
    → Run (λ j. get_or word j d ∷ []) at (length word) old out i → Put at word old out (at + i)
copy_end {A} d word at old out i room l r =
    let e : i ≡ length word = omega (arith, r.within) in
    let all : concat_map (λ j. get_or word j d ∷ []) (length word) ≡ word =
    concat_map_same _ (λ j. get_or word (0 + j) d ∷ []) (length word) (λ j h. ap (λ (k : ℕ). get_or word k d ∷ []) (sym (zero-add j)))
    ∙ concat_map_get_d d word 0 (length word) (omega arith) ∙ take-length word in
    record {
      written = run_end (λ j. get_or word j d ∷ []) at (length word) old out i l r ∙ ap (λ (new : List A). overwrite at new old) all;
      behind = ap (λ (k : ℕ). at + k) e;
      within = omega arith;
    }
