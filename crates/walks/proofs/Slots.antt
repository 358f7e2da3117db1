-- The places that the sure walk keeps, over plain lists: a hit put where it goes, by moving those that it goes before up by one, from the last place on.
use mathlib.Core.Path.{◌≡◌, refl, sym, ap, subst, ◌∙◌}
use mathlib.Core.Bool.{Bool, true, false, not, cond, ◌&&◌, ◌||◌, false≢true}
use mathlib.Core.List.{List, [], ◌∷◌, ◌++◌, append_assoc, append-nil}
use Prim.Native.Nat.{ℕ, zero, suc, ◌+◌, ◌-◌, ◌≤◌, ◌<◌}
use native.Mathlib.Nat.{add-zero, add-suc, add_assoc, zero-add}
use native.Mathlib.Numerals.{add-one}
use native.Mathlib.Omega.{arith}
use lib.ListN.{length, take}
use lib.Seq.{take_at}
use lib.Dec.{ltb}
use lib.Ieee.{Float, lt, eq}
use Rattle.spec_numbers.specs.Values.{Number}
use Rattle.spec_numbers.proofs.Tests.{passed}
use Rattle.spec_numbers.proofs.Order.{number_left, eq→le}
use Rattle.spec_numbers.proofs.Comparisons.{less_number}
use Rattle.spec_search.specs.Answers.{Hit, squared_of, number_of}
use Rattle.spec_search.specs.Rules.{Limit, counts}
use Rattle.spec_search.specs.Ranked.{before, inserted, offered_to, above_last, NoneBefore, Sorted}
use Rattle.spec_search.specs.Few.{offered_few, is_skipped}
use Rattle.spec_search.specs.Marked.{marker, markers}
use Rattle.spec_search.proofs.Rules.{counts_number}
use Rattle.spec_search.proofs.Ranked.{goes_behind, behind_both, not_before_self}
use Rattle.walks.specs.declared.answer.Measures.TheVariants.{Held}
use Rattle.walks.specs.Places.{most_of, slot_at, slots_from, places_of, Lent, Sound, Holds, PutAt}

-- ---- inserting, at the end of a list
module _ {H : Type 0} (key : H → Float) (number : H → ℕ) where
  -- what goes before anything has a number for its key
  before_number : (h k : H) → before key number h k ≡ true → Number (key h)
  before_number h k e = go (lt (key h) (key k)) (eq (key h) (key k)) refl refl e
    where
      go : (x y : Bool) → lt (key h) (key k) ≡ x → eq (key h) (key k) ≡ y → (x || (y && ltb (number h) (number k))) ≡ true → Number (key h)
      go true y p q e = less_number (key h) (key k) p
      go false true p q e = number_left (key h) (key k) (eq→le (key h) (key k) (passed q))
      go false false p q e = absurd (false≢true e)

  length_inserted : (h : H) (ks : List H) → length (inserted key number h ks) ≡ suc (length ks)
  unfolding inserted
  length_inserted h [] = refl
  length_inserted h (k ∷ ks) = go (before key number h k) (length_inserted h ks)
    where
      go : (b : Bool) → length (inserted key number h ks) ≡ suc (length ks)
          → length (cond b (h ∷ k ∷ ks) (k ∷ inserted key number h ks)) ≡ suc (suc (length ks))
      go true e = refl
      go false e = ap suc e

  -- what goes before the last is inserted before it
  inserted_within : (h : H) (ks : List H) (c : H) → before key number h c ≡ true
      → inserted key number h (ks ++ (c ∷ [])) ≡ inserted key number h ks ++ (c ∷ [])
  unfolding inserted
  inserted_within h [] c e = simp e
  inserted_within h (k ∷ ks) c e = go (before key number h k) (inserted_within h ks c e)
    where
      go : (b : Bool) → inserted key number h (ks ++ (c ∷ [])) ≡ inserted key number h ks ++ (c ∷ [])
          → cond b (h ∷ k ∷ (ks ++ (c ∷ []))) (k ∷ inserted key number h (ks ++ (c ∷ []))) ≡ cond b (h ∷ k ∷ ks) (k ∷ inserted key number h ks) ++ (c ∷ [])
      go true r = refl
      go false r = ap (λ (l : List H). k ∷ l) r

  -- so, of as many as may be kept, the last is given up
  last_goes : (n : ℕ) (h : H) (ks : List H) (c : H) → before key number h c ≡ true → suc (length ks) ≡ n
      → take n (inserted key number h (ks ++ (c ∷ []))) ≡ inserted key number h ks
  last_goes n h ks c e l = ap (take n) (inserted_within h ks c e) ∙ take_at (inserted key number h ks) (c ∷ []) n (length_inserted h ks ∙ l)

  last_is_number : (ks : List H) (c : H) → Sorted key number (ks ++ (c ∷ [])) → Number (key c)
  last_is_number [] c r = r.0
  last_is_number (k ∷ ks) c r = last_is_number ks c r.1.1

  last_behind : (k : H) (ks : List H) (c : H) → NoneBefore key number k (ks ++ (c ∷ [])) → before key number c k ≡ false
  last_behind k [] c b = b.0
  last_behind k (j ∷ ks) c b = last_behind k ks c b.1

  -- what does not go before the last is inserted behind it
  inserted_behind : (h : H) (ks : List H) (c : H) → Number (key h) → Sorted key number (ks ++ (c ∷ [])) → before key number h c ≡ false
      → inserted key number h (ks ++ (c ∷ [])) ≡ (ks ++ (c ∷ [])) ++ (h ∷ [])
  unfolding inserted
  inserted_behind h [] c hn r e = simp e
  inserted_behind h (k ∷ ks) c hn r e =
      goes_behind key number h k (ks ++ (c ∷ []))
      (behind_both key number h c k hn (last_is_number ks c r.1.1) r.0 e (last_behind k ks c r.1.0))
      ∙ ap (λ (l : List H). k ∷ l) (inserted_behind h ks c hn r.1.1 e)

  -- so, of as many as may be kept, it is not kept
  last_keeps : (n : ℕ) (h : H) (ks : List H) (c : H) → Number (key h) → Sorted key number (ks ++ (c ∷ [])) → before key number h c ≡ false
      → length (ks ++ (c ∷ [])) ≡ n → take n (inserted key number h (ks ++ (c ∷ []))) ≡ ks ++ (c ∷ [])
  last_keeps n h ks c hn r e l = ap (take n) (inserted_behind h ks c hn r e) ∙ take_at (ks ++ (c ∷ [])) (h ∷ []) n l

  none_before_front : (k : H) (ks js : List H) → NoneBefore key number k (ks ++ js) → NoneBefore key number k ks
  none_before_front k [] js b = tt
  none_before_front k (j ∷ ks) js b = (b.0, none_before_front k ks js b.1)

  sorted_front : (ks js : List H) → Sorted key number (ks ++ js) → Sorted key number ks
  sorted_front [] js r = tt
  sorted_front (k ∷ ks) js r = (r.0, (none_before_front k ks js r.1.0, sorted_front ks js r.1.1))

-- ---- slots
module _ (best : List Float) (which : List ℕ) where
  -- the higher ones, and then the lower ones
  slots_split : (a m n : ℕ) → slots_from best which a (m + n) ≡ slots_from best which (a + m) n ++ slots_from best which a m
  unfolding slots_from
  slots_split a m zero = ap (slots_from best which a) (add-zero m)
  slots_split a m (suc n) =
      ap (slots_from best which a) (add-suc m n)
      ∙ ap (λ (i : ℕ). slot_at best which i ∷ slots_from best which a (m + n)) (sym (add_assoc a m n))
      ∙ ap (λ (l : List Hit). slot_at best which (a + m + n) ∷ l) (slots_split a m n)

  slots_none : (a : ℕ) → slots_from best which a 0 ≡ []
  unfolding slots_from
  slots_none a = refl

  slots_one : (a : ℕ) → slots_from best which a 1 ≡ slot_at best which a ∷ []
  unfolding slots_from
  slots_one a = ap (λ (i : ℕ). slot_at best which i ∷ []) (add-zero a)

  -- the highest first
  slots_highest : (n : ℕ) → slots_from best which 0 (n + 1) ≡ slot_at best which n ∷ slots_from best which 0 n
  unfolding slots_from
  slots_highest n = ap (slots_from best which 0) (add-one n) ∙ ap (λ (i : ℕ). slot_at best which i ∷ slots_from best which 0 n) (zero-add n)

  -- the lowest last
  slots_lowest : (a n m : ℕ) → n ≡ 1 + m → slots_from best which a n ≡ slots_from best which (a + 1) m ++ (slot_at best which a ∷ [])
  slots_lowest a n m e =
      ap (slots_from best which a) e ∙ slots_split a 1 m ∙ ap (λ (l : List Hit). slots_from best which (a + 1) m ++ l) (slots_one a)

  -- those above slot j, and then the rest
  slots_apart : (j n : ℕ) → j < n → slots_from best which 0 n ≡ slots_from best which (j + 1) (n - (j + 1)) ++ slots_from best which 0 (j + 1)
  slots_apart j n l =
      ap (slots_from best which 0) (parts j n l) ∙ slots_split 0 (j + 1) (n - (j + 1))
      ∙ ap (λ (i : ℕ). slots_from best which i (n - (j + 1)) ++ slots_from best which 0 (j + 1)) (zero-add (j + 1))
    where
      parts : (j n : ℕ) → j < n → n ≡ j + 1 + (n - (j + 1))
      parts j n l = omega arith

  length_slots : (a n : ℕ) → length (slots_from best which a n) ≡ n
  unfolding slots_from
  length_slots a zero = refl
  length_slots a (suc n) = ap suc (length_slots a n)

  -- slots of lists that agree there
  slots_agree : (best' : List Float) (which' : List ℕ) (a n : ℕ)
      → ((i : ℕ) → a ≤ i → i < a + n → slot_at best' which' i ≡ slot_at best which i) → slots_from best' which' a n ≡ slots_from best which a n
  unfolding slots_from
  slots_agree best' which' a zero s = refl
  slots_agree best' which' a (suc n) s =
      ap (λ (h : Hit). h ∷ slots_from best' which' a n) (s (a + n) (omega arith) (omega arith))
      ∙ ap (λ (l : List Hit). slot_at best which (a + n) ∷ l) (slots_agree best' which' a n (λ i l u. s i l (omega arith)))

-- ---- a hit put where it goes
module _ (h : Hit) (best : List Float) (which : List ℕ) where
  -- j places from the last on are moved up by one; the slots above j are as they were, and h goes among those
  pub record Moving (best' : List Float) (which' : List ℕ) (j : ℕ) : Type 0 where
    pub lent : Lent best' which'
    pub most_is : most_of which' ≡ most_of which
    pub inside : j < most_of which
    pub above : (i : ℕ) → j < i → slot_at best' which' i ≡ slot_at best which i
    pub goes : inserted squared_of number_of h (slots_from best which (j + 1) (most_of which - (j + 1))) ++ slots_from best' which' 0 j
        ≡ take (most_of which) (inserted squared_of number_of h (places_of best which))

  module _ (sound : Sound best which) (ahead : before squared_of number_of h (slot_at best which 0) ≡ true) where
    -- start: the last place is given up
    pub moving_starts : Moving best which 0
    moving_starts = record {
      lent = sound.lent;
      most_is = refl;
      inside = sound.least;
      above = λ i l. refl;
      goes =
          ap (λ (l : List Hit). inserted squared_of number_of h (slots_from best which 1 (most_of which - 1)) ++ l) (slots_none best which 0)
          ∙ append-nil _
          ∙ sym (last_goes squared_of number_of (most_of which) h (slots_from best which 1 (most_of which - 1)) (slot_at best which 0) ahead
          (ap suc (length_slots best which 1 (most_of which - 1)) ∙ whole))
          ∙ ap (λ (l : List Hit). take (most_of which) (inserted squared_of number_of h l))
          (sym (slots_lowest best which 0 (most_of which) (most_of which - 1) parts));
    }
      where
        whole : suc (most_of which - 1) ≡ most_of which
        whole = omega (arith, sound.least)

        parts : most_of which ≡ 1 + (most_of which - 1)
        parts = omega (arith, sound.least)

    module _ (now : List Float) (now' : List ℕ) (j : ℕ) (moving : Moving now now' j) where
      -- the slots below the one that was put are as they were
      below_same : (c : Hit) (next : List Float) (next' : List ℕ) → PutAt now now' j c next next' → slots_from next next' 0 j ≡ slots_from now now' 0 j
      below_same c next next' put = slots_agree now now' next next' 0 j (λ i l u. put.elsewhere i (λ (e : i ≡ j). omega arith))

      here_put : (c : Hit) (next : List Float) (next' : List ℕ) → PutAt now now' j c next next' → slots_from next next' 0 (j + 1) ≡ c ∷ slots_from now now' 0 j
      here_put c next next' put =
          slots_highest next next' j ∙ ap (λ (x : Hit). x ∷ slots_from next next' 0 j) put.here
          ∙ ap (λ (l : List Hit). c ∷ l) (below_same c next next' put)

      -- the slot above, which the hit is compared with
      next_same : slot_at now now' (j + 1) ≡ slot_at best which (j + 1)
      next_same = moving.above (j + 1) (omega arith)

      next_lowest : j + 1 < most_of which → slots_from best which (j + 1) (most_of which - (j + 1))
          ≡ slots_from best which (j + 1 + 1) (most_of which - (j + 1 + 1)) ++ (slot_at now now' (j + 1) ∷ [])
      next_lowest more =
          slots_lowest best which (j + 1) (most_of which - (j + 1)) (most_of which - (j + 1 + 1)) (omega arith)
          ∙ ap (λ (x : Hit). slots_from best which (j + 1 + 1) (most_of which - (j + 1 + 1)) ++ (x ∷ [])) (sym next_same)

      -- turn: the hit goes before the next, which moves up by one
      pub moving_goes_on : (c : Hit) (next : List Float) (next' : List ℕ) → j + 1 < most_of which
          → before squared_of number_of h (slot_at now now' (j + 1)) ≡ true → c ≡ slot_at now now' (j + 1) → PutAt now now' j c next next'
          → Moving next next' (j + 1)
      moving_goes_on c next next' more first is put = record {
        lent = put.lent;
        most_is = put.most_is ∙ moving.most_is;
        inside = more;
        above = λ i l. put.elsewhere i (λ (e : i ≡ j). omega arith) ∙ moving.above i (omega arith);
        goes =
            ap (λ (l : List Hit). inserted squared_of number_of h rest ++ l) (here_put c next next' put ∙ ap (λ (x : Hit). x ∷ slots_from now now' 0 j) is)
            ∙ sym (append_assoc (inserted squared_of number_of h rest) (slot_at now now' (j + 1) ∷ []) (slots_from now now' 0 j))
            ∙ ap (λ (l : List Hit). l ++ slots_from now now' 0 j)
            (sym (inserted_within squared_of number_of h rest (slot_at now now' (j + 1)) first) ∙ ap (inserted squared_of number_of h) (sym (next_lowest more)))
            ∙ moving.goes;
      }
        where
          rest : List Hit
          rest = slots_from best which (j + 1 + 1) (most_of which - (j + 1 + 1))

      -- the hit goes behind all above: it is put here
      ends : (next : List Float) (next' : List ℕ) → PutAt now now' j h next next'
          → inserted squared_of number_of h (slots_from best which (j + 1) (most_of which - (j + 1)))
          ≡ slots_from best which (j + 1) (most_of which - (j + 1)) ++ (h ∷ [])
          → Holds Held next next' (most_of which) (take (most_of which) (inserted squared_of number_of h (places_of best which)))
      ends next next' put last = record {
        lent = put.lent;
        most_is = put.most_is ∙ moving.most_is;
        kept_is =
            ap (slots_from next next' 0) (put.most_is ∙ moving.most_is) ∙ slots_apart next next' j (most_of which) moving.inside
            ∙ ap (λ (l : List Hit). l ++ slots_from next next' 0 (j + 1))
            (slots_agree best which next next' (j + 1) (most_of which - (j + 1))
            (λ i l u. put.elsewhere i (λ (e : i ≡ j). omega arith) ∙ moving.above i (omega arith)))
            ∙ ap (λ (l : List Hit). slots_from best which (j + 1) (most_of which - (j + 1)) ++ l) (here_put h next next' put)
            ∙ sym (append_assoc (slots_from best which (j + 1) (most_of which - (j + 1))) (h ∷ []) (slots_from now now' 0 j))
            ∙ ap (λ (l : List Hit). l ++ slots_from now now' 0 j) (sym last)
            ∙ moving.goes;
      }

      above_sorted : Sorted squared_of number_of (slots_from best which (j + 1) (most_of which - (j + 1)))
      above_sorted =
          sorted_front squared_of number_of (slots_from best which (j + 1) (most_of which - (j + 1))) (slots_from best which 0 (j + 1))
          (subst (Sorted squared_of number_of) (slots_apart best which j (most_of which) moving.inside) sound.sorted)

      -- end: the hit does not go before the next, and is put here
      pub moving_ends : (next : List Float) (next' : List ℕ) → j + 1 < most_of which → before squared_of number_of h (slot_at now now' (j + 1)) ≡ false
          → PutAt now now' j h next next'
          → Holds Held next next' (most_of which) (take (most_of which) (inserted squared_of number_of h (places_of best which)))
      moving_ends next next' more behind put =
          ends next next' put
          (ap (inserted squared_of number_of h) (next_lowest more)
          ∙ inserted_behind squared_of number_of h (slots_from best which (j + 1 + 1) (most_of which - (j + 1 + 1))) (slot_at now now' (j + 1))
          (before_number squared_of number_of h (slot_at best which 0) ahead)
          (subst (Sorted squared_of number_of) (next_lowest more) above_sorted) behind
          ∙ ap (λ (l : List Hit). l ++ (h ∷ [])) (sym (next_lowest more)))

      -- end: no place is nearer, so the hit is put here
      pub moving_ends_nearest : (next : List Float) (next' : List ℕ) → most_of which ≤ j + 1
          → PutAt now now' j h next next'
          → Holds Held next next' (most_of which) (take (most_of which) (inserted squared_of number_of h (places_of best which)))
      unfolding inserted slots_from
      moving_ends_nearest next next' last put =
          ends next next' put
          (subst (λ (n : ℕ). inserted squared_of number_of h (slots_from best which (j + 1) n) ≡ slots_from best which (j + 1) n ++ (h ∷ [])) none refl)
        where
          none : 0 ≡ most_of which - (j + 1)
          none = omega arith

-- ---- the last place
module _ (best : List Float) (which : List ℕ) (sound : Sound best which) where
  places_lowest : places_of best which ≡ slots_from best which 1 (most_of which - 1) ++ (slot_at best which 0 ∷ [])
  places_lowest = slots_lowest best which 0 (most_of which) (most_of which - 1) (omega (arith, sound.least))

  -- a hit that does not go before the last place, or does not count, is not kept
  pub offer_keeps : (limit : Limit) (h : Hit) → (counts limit h.squared && before squared_of number_of h (slot_at best which 0)) ≡ false
      → offered_few (most_of which) limit h (places_of best which) ≡ places_of best which
  unfolding offered_few offered_to
  offer_keeps limit h e = go (counts limit h.squared) refl e
    where
      go : (b : Bool) → counts limit h.squared ≡ b → (b && before squared_of number_of h (slot_at best which 0)) ≡ false
          → cond b (take (most_of which) (inserted squared_of number_of h (places_of best which))) (places_of best which) ≡ places_of best which
      go false n f = refl
      go true n f =
          ap (λ (l : List Hit). take (most_of which) (inserted squared_of number_of h l)) places_lowest
          ∙ last_keeps squared_of number_of (most_of which) h (slots_from best which 1 (most_of which - 1)) (slot_at best which 0)
          (counts_number limit h.squared n)
          (subst (Sorted squared_of number_of) places_lowest sound.sorted) f
          (ap length (sym places_lowest) ∙ length_slots best which 0 (most_of which))
          ∙ sym places_lowest

  -- one that counts is inserted
  pub offer_inserts : (limit : Limit) (h : Hit) → counts limit h.squared ≡ true
      → offered_few (most_of which) limit h (places_of best which) ≡ take (most_of which) (inserted squared_of number_of h (places_of best which))
  unfolding offered_few offered_to
  offer_inserts limit h e = simp e

  above_slot : (n : ℕ) (d : Float) → 1 ≤ n → above_last squared_of number_of n d (slots_from best which 0 n) ≡ lt (slot_at best which 0).squared d
  unfolding above_last slots_from
  above_slot zero d l = absurd (omega arith)
  above_slot (suc zero) d l = refl
  above_slot (suc (suc n)) d l = above_slot (suc n) d (omega arith)

  -- what is skipped is seen at the last place alone
  pub skipped_by_last : (limit : Limit) (d : Float)
      → (not (counts limit d) || lt (slot_at best which 0).squared d) ≡ is_skipped (most_of which) limit d (places_of best which)
  unfolding is_skipped
  skipped_by_last limit d = ap (λ (b : Bool). not (counts limit d) || b) (sym (above_slot (most_of which) d sound.least))

  -- places that hold what is sorted are sound, if there are as many
  pub sound_after : (best' : List Float) (which' : List ℕ) (ks : List Hit) → Holds Held best' which' (most_of which) ks → Sorted squared_of number_of ks
      → Sound best' which'
  sound_after best' which' ks holds r = record {
    lent = holds.lent;
    least = omega (arith, holds.most_is, sound.least);
    most = omega (arith, holds.most_is, sound.most);
    sorted = subst (Sorted squared_of number_of) (sym holds.kept_is) r;
  }

-- ---- markers
-- so many places of markers
pub marked_places : (best : List Float) (which : List ℕ) (squared : Float) (n : ℕ) → ((i : ℕ) → i < n → slot_at best which i ≡ marker squared)
    → slots_from best which 0 n ≡ markers n squared
unfolding slots_from markers
marked_places best which squared zero m = refl
marked_places best which squared (suc n) m =
    ap (λ (h : Hit). h ∷ slots_from best which 0 n) (m (0 + n) (omega arith))
    ∙ ap (λ (l : List Hit). marker squared ∷ l) (marked_places best which squared n (λ i l. m i (omega arith)))

marker_behind : (squared : Float) (n : ℕ) → Number squared → NoneBefore squared_of number_of (marker squared) (markers n squared)
unfolding markers
marker_behind squared zero d = tt
marker_behind squared (suc n) d = (not_before_self squared_of number_of (marker squared) d, marker_behind squared n d)

-- markers at a number are sorted
pub markers_sorted : (squared : Float) (n : ℕ) → Number squared → Sorted squared_of number_of (markers n squared)
unfolding markers
markers_sorted squared zero d = tt
markers_sorted squared (suc n) d = (d, (marker_behind squared n d, markers_sorted squared n d))

-- places that were filled with markers are sound: a walk may start with them
pub start_sound : (best : List Float) (which : List ℕ) (squared : Float) (most : ℕ) → Number squared → 1 ≤ most → most ≤ 16
    → Holds Held best which most (markers most squared) → Sound best which
start_sound best which squared most d least few holds = record {
  lent = holds.lent;
  least = omega (arith, holds.most_is);
  most = omega (arith, holds.most_is);
  sorted = subst (Sorted squared_of number_of) (sym holds.kept_is) (markers_sorted squared most d);
}
