-- The laws of overwriting, of concatenation, of slices, of what remains and of what was put:
-- adjacent writes are one write, and pieces are found again where they were put.
use mathlib.Core.Path.{◌≡◌, refl, sym, ap, ◌∙◌, subst}
use mathlib.Core.Logic.{⊎_elim}
use mathlib.Core.List.{List, [], ◌∷◌, ◌++◌, append_assoc}
use Prim.Native.Nat.{ℕ, zero, suc, ◌+◌, ◌-◌, ◌*◌, ◌≤◌, ◌<◌}
use native.Mathlib.Nat.{add_assoc, add-zero, mul-suc, mul-le-mul_left, eq-or-lt_of_le, le_of_suc-le-suc}
use native.Mathlib.Numerals.{add-one}
use native.Mathlib.Omega.{arith}
use lib.ListN.{length, take, drop, set, length-append, length-drop, take-append-drop}
use lib.Seq.{sets, sets-eq, length-take-le, take-append-le, drop-append-le, take_at, drop_at, drop-drop, take_all, take-add, take-take, take-append_seam, drop-append_seam, set_split}
use Rattle.spec_tables.specs.Tables.{overwrite, concat_map, slice, Remaining, Put}

module _ {A : Type 0} where
  -- stores one after the other are one overwrite, so no store is named above the functions that store
  pub sets_overwrite : (at : ℕ) (new old : List A) → at + length new ≤ length old → sets old at new ≡ overwrite at new old
  unfolding overwrite
  sets_overwrite at new old h = sets-eq new old at h ∙ append_assoc (take at old) new (drop (at + length new) old)

  -- overwriting within a list keeps its length
  pub length_overwrite : (at : ℕ) (new old : List A) → at + length new ≤ length old → length (overwrite at new old) ≡ length old
  unfolding overwrite
  length_overwrite at new old h =
      let room : at ≤ length old = omega arith in
      simp (length-append, length-take-le at old room, length-drop) (omega arith)

  -- writing nothing changes nothing: where a loop starts
  pub overwrite_none : (at : ℕ) (old : List A) → overwrite at [] old ≡ old
  unfolding overwrite
  overwrite_none at old = rw add-zero (take-append-drop at old)

  -- a write right behind another is one write of both: how all that a loop writes becomes one overwrite
  overwrite_overwrite : (at : ℕ) (a b old : List A) → at + length a + length b ≤ length old
      → overwrite (at + length a) b (overwrite at a old) ≡ overwrite at (a ++ b) old
  unfolding overwrite
  overwrite_overwrite at a b old h =
      let room : at ≤ length old = omega arith in
      let p : List A = take at old in
      let e : length (p ++ a) ≡ at + length a = simp (length-append, length-take-le at old room) in
      let rest : List A = drop (at + length a) old in
      let d : drop (at + length a + length b) (p ++ (a ++ rest)) ≡ drop (at + length (a ++ b)) old =
      rw (← append_assoc p a rest) (sym (drop-drop (length b) (at + length a) ((p ++ a) ++ rest))
      ∙ ap (drop (length b)) (drop_at (p ++ a) rest (at + length a) e)
      ∙ drop-drop (length b) (at + length a) old
      ∙ ap (λ (n : ℕ). drop n old) (add_assoc at (length a) (length b) ∙ ap (λ (n : ℕ). at + n) (sym (length-append a b)))) in
      rw (d, ← append_assoc p a rest, take_at (p ++ a) rest (at + length a) e)
      (append_assoc p a (b ++ drop (at + length (a ++ b)) old) ∙ ap (λ (l : List A). p ++ l) (sym (append_assoc a b (drop (at + length (a ++ b)) old))))

  -- how long pieces of equal size are together: the room that writing them needs
  pub length_concat_map : (f : ℕ → List A) (w n : ℕ) → ((i : ℕ) → length (f i) ≡ w) → length (concat_map f n) ≡ w * n
  unfolding concat_map
  length_concat_map f w zero h = omega arith
  length_concat_map f w (suc n) h = simp (length-append, length_concat_map f w n h, h n, mul-suc)

  -- pieces that are equal one by one make the same list
  pub concat_map_same : (f g : ℕ → List A) (n : ℕ) → ((i : ℕ) → i < n → f i ≡ g i) → concat_map f n ≡ concat_map g n
  unfolding concat_map
  concat_map_same f g zero h = refl
  concat_map_same f g (suc n) h = rw (concat_map_same f g n (λ i k. h i (omega arith)), h n (omega arith))

  -- turn of a loop that writes pieces of equal size one behind the other
  pub concat_map_more : (f : ℕ → List A) (w at i : ℕ) (old : List A) → ((j : ℕ) → length (f j) ≡ w) → at + w * i + w ≤ length old
      → overwrite (at + w * i) (f i) (overwrite at (concat_map f i) old) ≡ overwrite at (concat_map f (suc i)) old
  unfolding concat_map
  concat_map_more f w at i old h room =
      let long : length (concat_map f i) ≡ w * i = length_concat_map f w i h in
      let here : length (f i) ≡ w = h i in
      ap (λ (n : ℕ). overwrite (at + n) (f i) (overwrite at (concat_map f i) old)) (sym long)
      ∙ overwrite_overwrite at (concat_map f i) (f i) old (omega arith)

  -- the slices of a list, one behind the other, are its front
  pub concat_map_slices : (w : ℕ) (l : List A) (n : ℕ) → concat_map (λ i. slice l (w * i) w) n ≡ take (w * n) l
  unfolding concat_map
  concat_map_slices w l zero = let e : w * 0 ≡ 0 = omega arith in rw e
  concat_map_slices w l (suc n) = rw (concat_map_slices w l n, mul-suc, take-add)

  -- each of pieces of equal size is found at its place
  pub slice_concat_map : (f : ℕ → List A) (w n i : ℕ) → ((j : ℕ) → length (f j) ≡ w) → i < n → slice (concat_map f n) (w * i) w ≡ f i
  unfolding concat_map
  slice_concat_map f w zero i h k = absurd (no k)
    where
      no : i < 0 → ⊥
      no k = omega arith
  slice_concat_map f w (suc n) i h k =
      let long : length (concat_map f n) ≡ w * n = length_concat_map f w n h in
      ⊎_elim
      (λ (e : i ≡ n). rw (e, drop_at (concat_map f n) (f n) (w * n) long) (take_all w (f n) (omega (arith, h n))))
      (λ (l : i < n).
      let m : w * suc i ≤ w * n = mul-le-mul_left w l in
      let m' : w * i + w ≤ w * n = rw mul-suc at m in
      let a : w * i ≤ length (concat_map f n) = omega arith in
      let b : w ≤ length (drop (w * i) (concat_map f n)) = simp length-drop (omega arith) in
      rw (drop-append-le (w * i) (concat_map f n) (f n) a, take-append-le w (drop (w * i) (concat_map f n)) (f n) b) (slice_concat_map f w n i h l))
      (eq-or-lt_of_le (le_of_suc-le-suc k))

  -- ---- what remains from a place on

  -- before anything is read, the whole list remains
  pub remaining_whole : (s : List A) → Remaining s 0 s
  remaining_whole s = record { within = omega arith; remaining = refl }

  -- the place and what remains make up the length of the list
  pub remaining_within : (s : List A) (at : ℕ) (rest : List A) → Remaining s at rest → at + length rest ≡ length s
  remaining_within s at rest h =
      let e : length s - at ≡ length rest = sym (length-drop at s) ∙ ap length h.remaining in
      omega (arith, h.within)

  -- the front of what remains stands at the place
  pub remaining_front : (s : List A) (at : ℕ) (a b : List A) → Remaining s at (a ++ b) → slice s at (length a) ≡ a
  remaining_front s at a b h = ap (take (length a)) h.remaining ∙ take-append_seam a b

  -- behind the front of what remains the rest remains: where reading goes on
  pub remaining_back : (s : List A) (at : ℕ) (a b : List A) → Remaining s at (a ++ b) → Remaining s (at + length a) b
  remaining_back s at a b h =
      let long : length (a ++ b) ≡ length a + length b = length-append a b in
      record {
        within = omega (arith, remaining_within s at (a ++ b) h);
        remaining = sym (drop-drop (length a) at s) ∙ ap (drop (length a)) h.remaining ∙ drop-append_seam a b;
      }

  -- one write, and then another right behind it, are one overwrite
  pub then_overwrite : (at place : ℕ) (a b old mid out : List A) → mid ≡ overwrite at a old → out ≡ overwrite place b mid → place ≡ at + length a
      → place + length b ≤ length old
      → out ≡ overwrite at (a ++ b) old
  then_overwrite at place a b old mid out p q e room =
      q ∙ ap (overwrite place b) p ∙ ap (λ (k : ℕ). overwrite k b (overwrite at a old)) e ∙ overwrite_overwrite at a b old (omega arith)

  -- ---- one behind the other

  -- what is put leaves the length of the list
  pub put_long : {at next : ℕ} {new old out : List A} → Put at new old out next → length out ≡ length old
  put_long {at} {next} {new} {old} p = ap length p.written ∙ length_overwrite at new old (omega (arith, p.behind, p.within))

  -- what was put, said of an equal list
  pub put_same : {at next : ℕ} {new other old out : List A} → new ≡ other → Put at new old out next → Put at other old out next
  put_same {at} {next} {new} {other} {old} {out} e p = subst (λ (l : List A). Put at l old out next) e p

  -- nothing was put yet
  pub put_none : (at : ℕ) (old : List A) → at ≤ length old → Put at [] old old at
  put_none at old h = record { written = sym (overwrite_none at old); behind = omega arith; within = h }

  -- two writes, one behind the other, are one: how a record is put field by field
  pub put_then : {at i j : ℕ} {a b old mid out : List A} → Put at a old mid i → Put i b mid out j → Put at (a ++ b) old out j
  put_then {at} {i} {j} {a} {b} {old} {mid} {out} p q =
      let same : length mid ≡ length old = put_long p in
      record {
        written = then_overwrite at i a b old mid out p.written q.written p.behind (omega (arith, q.behind, q.within));
        behind = q.behind ∙ ap (λ (n : ℕ). n + length b) p.behind ∙ simp length-append (omega arith);
        within = omega (arith, q.within);
      }

  -- turn of a loop that puts pieces one behind the other
  pub put_more : {at next end : ℕ} {old mid out : List A} (f : ℕ → List A) (i : ℕ) → Put at (concat_map f i) old mid next → Put next (f i) mid out end
      → Put at (concat_map f (i + 1)) old out end
  unfolding concat_map
  put_more f i p q = rw add-one (put_then p q)

  -- a store puts one element
  pub put_store : (at : ℕ) (v : A) (old : List A) → at < length old → Put at (v ∷ []) old (set old at v) (at + 1)
  put_store at v old h = record { written = sets_overwrite at (v ∷ []) old (omega arith); behind = refl; within = omega arith }

  -- a store right in front of what was written last, as digits are written: the lowest first, from the end
  pub set_before : (p : ℕ) (d : A) (tail old : List A) → p + 1 + length tail ≤ length old → set (overwrite (p + 1) tail old) p d ≡ overwrite p (d ∷ tail) old
  unfolding overwrite
  set_before p d tail old h =
      let one : p + 1 ≡ suc p = omega arith in
      let inside : suc p ≤ length old = omega arith in
      let front : List A = take (suc p) old in
      let long : length front ≡ suc p = length-take-le (suc p) old inside in
      let rest : List A = tail ++ drop (suc p + length tail) old in
      let in' : p < length (front ++ rest) = simp length-append (omega arith) in
      let in'' : p ≤ length front = omega arith in
      let more : suc p + length tail ≡ p + suc (length tail) = omega arith in
      rw one (set_split (front ++ rest) p d in'
      ∙ ap (λ (l : List A). l ++ d ∷ drop (suc p) (front ++ rest)) (take-append-le p front rest in'' ∙ take-take p (suc p) old (omega arith))
      ∙ ap (λ (l : List A). take p old ++ d ∷ l) (drop_at front rest (suc p) long)
      ∙ ap (λ (k : ℕ). take p old ++ d ∷ (tail ++ drop k old)) more)

  -- seven stores one after the other are one overwrite
  pub seven_overwrite : (at : ℕ) (a b c d e f g : A) (old : List A) → at + 7 ≤ length old
      → set (set (set (set (set (set (set old at a) (at + 1) b) (at + 2) c) (at + 3) d) (at + 4) e) (at + 5) f) (at + 6) g
      ≡ overwrite at (a ∷ b ∷ c ∷ d ∷ e ∷ f ∷ g ∷ []) old
  seven_overwrite at a b c d e f g old h =
      let p1 : at + 1 ≡ suc at = omega arith in
      let p2 : at + 2 ≡ suc (suc at) = omega arith in
      let p3 : at + 3 ≡ suc (suc (suc at)) = omega arith in
      let p4 : at + 4 ≡ suc (suc (suc (suc at))) = omega arith in
      let p5 : at + 5 ≡ suc (suc (suc (suc (suc at)))) = omega arith in
      let p6 : at + 6 ≡ suc (suc (suc (suc (suc (suc at))))) = omega arith in
      rw (p1, p2, p3, p4, p5, p6) (sets_overwrite at (a ∷ b ∷ c ∷ d ∷ e ∷ f ∷ g ∷ []) old h)
