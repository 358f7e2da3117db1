-- Keeping the first few of what is offered: the order in which things are offered does not matter, nothing is kept of what lies behind the last, and what
-- is kept is the front of the ranking of all that counts. What is kept stays sorted.
use mathlib.Core.Path.{◌≡◌, refl, sym, ap, subst, ◌∙◌}
use mathlib.Core.Bool.{Bool, true, false, not, cond, ◌&&◌, ◌||◌, true≢false, false≢true}
use mathlib.Core.Logic.{◌⊎◌, inl, inr, ⊎_elim}
use mathlib.Core.List.{List, [], ◌∷◌, Memᴰ}
use Prim.Native.Nat.{ℕ, zero, suc, ◌≤◌, ◌<◌}
use native.Mathlib.Nat.{eq-or-lt_of_le, le_of_suc-le-suc}
use native.Mathlib.Omega.{arith}
use native.Mathlib.Decide.{ℕ_discrete}
use borrow.Author.Tests.{ltb-true, ltb-false, lt-ltb}
use lib.Dec.{ltb}
use lib.ListN.{length, take}
use lib.Ieee.{Float, lt}
use Rattle.spec_numbers.specs.Values.{Number}
use Rattle.spec_numbers.proofs.Tests.{either}
use Rattle.spec_numbers.proofs.Comparisons.{less_asymmetric, less_between, equal_is}
use Rattle.spec_tree.specs.Order.{range}
use Rattle.spec_search.specs.Walk.{fold}
use Rattle.spec_search.specs.Ranked.{before, inserted, offered_to, above_last, NotBelow, Rising, NoneBefore, Sorted, BeforeAll, Ranks, IsRanking}
use Rattle.spec_search.proofs.Scan.{kept_append}

both_ways : {A : Type 0} (b : Bool) → b ≡ true → b ≡ false → A
both_ways b p q = absurd (true≢false (sym p ∙ q))

module _ {H : Type 0} (key : H → Float) (number : H → ℕ) where
  abbrev goes : H → H → Bool
  goes = before key number

  abbrev put : H → List H → List H
  put = inserted key number

  abbrev over : ℕ → Float → List H → Bool
  over = above_last key number

  abbrev Rises : List H → Type 0
  Rises = Rising key number

  -- h is smaller than k, or level with it at a lower number
  Less : H → H → Type 0
  Less h k =
      (lt (key h) (key k) ≡ true)
      ⊎ ((lt (key h) (key k) ≡ false) × (lt (key k) (key h) ≡ false) × (number h < number k))

  of_before : (h k : H) → Number (key h) → Number (key k) → goes h k ≡ true → Less h k
  unfolding Less
  of_before h k hn kn b = go (lt d e) (lt e d) refl refl (rw (equal_is d e hn kn) at b)
    where
      d : Float
      d = key h

      e : Float
      e = key k

      go : (x y : Bool) → lt (key h) (key k) ≡ x → lt (key k) (key h) ≡ y
          → (lt (key h) (key k) || ((not (lt (key h) (key k)) && not (lt (key k) (key h))) && ltb (number h) (number k))) ≡ true
          → (lt (key h) (key k) ≡ true) ⊎ ((lt (key h) (key k) ≡ false) × (lt (key k) (key h) ≡ false) × (number h < number k))
      go true y p q b = inl p
      go false true p q b = absurd (false≢true (simp (p, q) at b))
      go false false p q b = inr (p, q, ltb-true (number h) (number k) (simp (p, q) at b))

  to_before : (h k : H) → Number (key h) → Number (key k) → Less h k → goes h k ≡ true
  unfolding Less
  to_before h k hn kn (inl b) = simp b
  to_before h k hn kn (inr b) = rw (equal_is (key h) (key k) hn kn) (simp (b.0, b.1, lt-ltb (number h) (number k) b.2))

  less_trans : (h k j : H) → Number (key h) → Number (key k) → Number (key j) → Less h k → Less k j → Less h j
  unfolding Less
  less_trans h k j hn kn jn (inl a) (inl b) =
      inl (⊎_elim (λ c. c) (λ c. both_ways _ c (less_asymmetric _ _ b)) (less_between (key h) (key j) (key k) jn a))
  less_trans h k j hn kn jn (inl a) (inr b) =
      inl (⊎_elim (λ c. c) (λ c. both_ways _ c b.1) (less_between (key h) (key j) (key k) jn a))
  less_trans h k j hn kn jn (inr a) (inl b) =
      inl (⊎_elim (λ c. both_ways _ c a.1) (λ c. c) (less_between (key k) (key h) (key j) hn b))
  less_trans h k j hn kn jn (inr a) (inr b) = inr (
    ⊎_elim (λ c. ⊎_elim (λ x. both_ways _ x a.0) (λ x. both_ways _ x b.0) (less_between (key h) (key k) (key j) kn c)) (λ c. c)
        (either (lt (key h) (key j))),
    ⊎_elim (λ c. ⊎_elim (λ x. both_ways _ x b.1) (λ x. both_ways _ x a.1) (less_between (key j) (key k) (key h) kn c)) (λ c. c)
        (either (lt (key j) (key h))),
    omega arith,
  )

  -- of two hits of different triangles one goes first
  before_one : (h k : H) → (number h ≡ number k → ⊥) → Number (key h) → Number (key k) → goes k h ≡ not (goes h k)
  before_one h k ne hn kn =
      rw (equal_is (key h) (key k) hn kn, equal_is (key k) (key h) kn hn)
      (go (lt (key h) (key k)) (lt (key k) (key h)) (ltb (number h) (number k)) (ltb (number k) (number h)) refl refl refl refl)
    where
      go : (x y a b : Bool) → lt (key h) (key k) ≡ x → lt (key k) (key h) ≡ y → ltb (number h) (number k) ≡ a → ltb (number k) (number h) ≡ b
          → (y || ((not y && not x) && b)) ≡ not (x || ((not x && not y) && a))
      go true true a b p q r s = both_ways _ q (less_asymmetric _ _ p)
      go true false a b p q r s = refl
      go false true a b p q r s = refl
      go false false true true p q r s =
          let up = ltb-true (number h) (number k) r in let down = ltb-true (number k) (number h) s in absurd (omega (arith, up, down))
      go false false true false p q r s = refl
      go false false false true p q r s = refl
      go false false false false p q r s =
          let up = ltb-false (number h) (number k) r in let down = ltb-false (number k) (number h) s in absurd (ne (omega (arith, up, down)))

  -- ---- inserting
  module _ (h : H) where
    goes_last : put h [] ≡ h ∷ []
    unfolding inserted
    goes_last = refl

    -- one that goes before the first is put in front
    pub goes_before : (k : H) (ks : List H) → goes h k ≡ true → put h (k ∷ ks) ≡ h ∷ k ∷ ks
    unfolding inserted
    goes_before k ks e = simp e

    -- one that does not is put among the others
    pub goes_behind : (k : H) (ks : List H) → goes h k ≡ false → put h (k ∷ ks) ≡ k ∷ put h ks
    unfolding inserted
    goes_behind k ks e = simp e

  -- what is cut off before is cut off behind
  take_twice : (n : ℕ) (k : H) (ks : List H) → take n (k ∷ take n ks) ≡ take n (k ∷ ks)
  take_twice zero k ks = refl
  take_twice (suc n) k ks = ap (λ (l : List H). k ∷ l) (shorter n ks)
    where
      shorter : (n : ℕ) (ks : List H) → take n (take (suc n) ks) ≡ take n ks
      shorter zero ks = refl
      shorter (suc n) [] = refl
      shorter (suc n) (k ∷ ks) = ap (λ (l : List H). k ∷ l) (shorter n ks)

  cut_inserted : (n : ℕ) (h : H) (ks : List H) → take n (put h (take n ks)) ≡ take n (put h ks)
  cut_inserted zero h ks = refl
  cut_inserted (suc n) h [] = refl
  cut_inserted (suc n) h (k ∷ ks) =
      ⊎_elim
      (λ (e : goes h k ≡ true).
      ap (take (suc n)) (goes_before h k (take n ks) e) ∙ ap (λ (l : List H). h ∷ l) (take_twice n k ks) ∙ sym (ap (take (suc n)) (goes_before h k ks e)))
      (λ (e : goes h k ≡ false).
      ap (take (suc n)) (goes_behind h k (take n ks) e) ∙ ap (λ (l : List H). k ∷ l) (cut_inserted n h ks) ∙ sym (ap (take (suc n)) (goes_behind h k ks e)))
      (either (goes h k))

  -- ---- two insertions in either order
  module _ (h j : H) (ne : number h ≡ number j → ⊥) (hn : Number (key h)) (jn : Number (key j)) where
    one_first : goes j h ≡ not (goes h j)
    one_first = before_one h j ne hn jn

  -- h goes goes k and j does not: j does not go goes h
  not_first : (h j k : H) → Number (key h) → Number (key j) → Number (key k) → goes h k ≡ true → goes j k ≡ false → goes j h ≡ false
  not_first h j k hn jn kn a b =
      ⊎_elim
      (λ c. both_ways (goes j k) (to_before j k jn kn (less_trans j h k jn hn kn (of_before j h jn hn c) (of_before h k hn kn a))) b)
      (λ c. c)
      (either (goes j h))

  module _ (h j : H) (ne : number h ≡ number j → ⊥) (hn : Number (key h)) (jn : Number (key j)) where
    -- both before the rest
    pair : (ks : List H) → (goes h j ≡ true) ⊎ (goes h j ≡ false) → put h ks ≡ h ∷ ks → put j ks ≡ j ∷ ks → put h (j ∷ ks) ≡ put j (h ∷ ks)
    pair ks (inl e) p q = goes_before h j ks e ∙ ap (λ (l : List H). h ∷ l) (sym q) ∙ sym (goes_behind j h ks (one_first h j ne hn jn ∙ ap not e))
    pair ks (inr e) p q = goes_behind h j ks e ∙ ap (λ (l : List H). j ∷ l) p ∙ sym (goes_before j h ks (one_first h j ne hn jn ∙ ap not e))

    swap_at : (k : H) (ks : List H) → Number (key k) → put h (put j ks) ≡ put j (put h ks) → (goes h k ≡ true) ⊎ (goes h k ≡ false)
        → (goes j k ≡ true) ⊎ (goes j k ≡ false)
        → put h (put j (k ∷ ks)) ≡ put j (put h (k ∷ ks))
    swap_at k ks kn rest (inl a) (inl b) =
        ap (put h) (goes_before j k ks b) ∙ pair (k ∷ ks) (either (goes h j)) (goes_before h k ks a) (goes_before j k ks b)
        ∙ sym (ap (put j) (goes_before h k ks a))
    swap_at k ks kn rest (inl a) (inr b) =
        ap (put h) (goes_behind j k ks b) ∙ goes_before h k (put j ks) a ∙ ap (λ (l : List H). h ∷ l) (sym (goes_behind j k ks b))
        ∙ sym (goes_behind j h (k ∷ ks) (not_first h j k hn jn kn a b)) ∙ sym (ap (put j) (goes_before h k ks a))
    swap_at k ks kn rest (inr a) (inl b) =
        ap (put h) (goes_before j k ks b) ∙ goes_behind h j (k ∷ ks) (not_first j h k jn hn kn b a) ∙ ap (λ (l : List H). j ∷ l) (goes_behind h k ks a)
        ∙ sym (goes_before j k (put h ks) b) ∙ sym (ap (put j) (goes_behind h k ks a))
    swap_at k ks kn rest (inr a) (inr b) =
        ap (put h) (goes_behind j k ks b) ∙ goes_behind h k (put j ks) a ∙ ap (λ (l : List H). k ∷ l) rest
        ∙ sym (goes_behind j k (put h ks) b) ∙ sym (ap (put j) (goes_behind h k ks a))

    insert_swap : (ks : List H) → Rises ks → put h (put j ks) ≡ put j (put h ks)
    insert_swap [] r = ap (put h) (goes_last j) ∙ pair [] (either (goes h j)) (goes_last h) (goes_last j) ∙ sym (ap (put j) (goes_last h))
    insert_swap (k ∷ ks) r = swap_at k ks r.0 (insert_swap ks r.1.1) (either (goes h k)) (either (goes j k))

  -- ---- what is kept keeps rising
  not_below_inserted : (d : Float) (h : H) (ks : List H) → lt (key h) d ≡ false → NotBelow key number d ks → NotBelow key number d (put h ks)
  unfolding inserted
  not_below_inserted d h [] e r = (e, tt)
  not_below_inserted d h (k ∷ ks) e r =
      ⊎_elim
      (λ (c : goes h k ≡ true). subst (NotBelow key number d) (sym (goes_before h k ks c)) (e, r))
      (λ (c : goes h k ≡ false). subst (NotBelow key number d) (sym (goes_behind h k ks c)) (r.0, not_below_inserted d h ks e r.1))
      (either (goes h k))

  not_below_cut : (d : Float) (n : ℕ) (ks : List H) → NotBelow key number d ks → NotBelow key number d (take n ks)
  not_below_cut d zero ks r = tt
  not_below_cut d (suc n) [] r = tt
  not_below_cut d (suc n) (k ∷ ks) r = (r.0, not_below_cut d n ks r.1)

  -- the front of what rises, rises
  pub rising_cut : (n : ℕ) (ks : List H) → Rises ks → Rises (take n ks)
  rising_cut zero ks r = tt
  rising_cut (suc n) [] r = tt
  rising_cut (suc n) (k ∷ ks) r = (r.0, (not_below_cut (key k) n ks r.1.0, rising_cut n ks r.1.1))

  -- the hits behind one that h goes before are not below h
  before_not_below : (h k : H) → goes h k ≡ true → Number (key h) → Number (key k) → lt (key k) (key h) ≡ false
  unfolding Less
  before_not_below h k e hn kn = ⊎_elim (λ a. less_asymmetric (key h) (key k) a) (λ a. a.1) (of_before h k hn kn e)

  behind_not_below : (h k : H) → goes h k ≡ false → lt (key h) (key k) ≡ false
  behind_not_below h k e = ⊎_elim (λ (a : lt (key h) (key k) ≡ true). absurd (true≢false (simp a at e))) (λ a. a) (either (lt (key h) (key k)))

  not_below_lower : (d e : Float) (ks : List H) → Number e → lt e d ≡ false → NotBelow key number e ks → NotBelow key number d ks
  not_below_lower d e [] n l r = tt
  not_below_lower d e (k ∷ ks) n l r = (
    ⊎_elim (λ (a : lt (key k) d ≡ true). ⊎_elim (λ b. both_ways _ b r.0) (λ b. both_ways _ b l) (less_between (key k) e d n a)) (λ a. a)
        (either (lt (key k) d)),
    not_below_lower d e ks n l r.1,
  )

  -- what rises still rises with one more put where it goes
  pub rising_inserted : (h : H) (ks : List H) → Number (key h) → Rises ks → Rises (put h ks)
  unfolding inserted
  rising_inserted h [] hn r = (hn, (tt, tt))
  rising_inserted h (k ∷ ks) hn r =
      ⊎_elim
      (λ (c : goes h k ≡ true).
      let l = before_not_below h k c hn r.0 in
      subst (Rises) (sym (goes_before h k ks c)) (hn, ((l, not_below_lower (key h) (key k) ks r.0 l r.1.0), r)))
      (λ (c : goes h k ≡ false).
      subst (Rises) (sym (goes_behind h k ks c))
      (r.0, (not_below_inserted (key k) h ks (behind_not_below h k c) r.1.0, rising_inserted h ks hn r.1.1)))
      (either (goes h k))

  -- no more are kept than may be
  pub cut_length : (n : ℕ) (ks : List H) → length (take n ks) ≤ n
  cut_length zero ks = omega arith
  cut_length (suc n) [] = omega arith
  cut_length (suc n) (k ∷ ks) = let l = cut_length n ks in omega arith

  -- ---- passing over
  -- what is above the last is above all that are not above the rest
  above_all : (n : ℕ) (b d : Float) (ks : List H) → Rises ks → Number d → NotBelow key number d ks → over n b ks ≡ true → lt d b ≡ true
  unfolding above_last
  above_all zero b d ks r dn l e = absurd (false≢true e)
  above_all (suc n) b d [] r dn l e = absurd (false≢true e)
  above_all (suc zero) b d (k ∷ ks) r dn l e = ⊎_elim (λ c. both_ways _ c l.0) (λ c. c) (less_between (key k) d b dn e)
  above_all (suc (suc n)) b d (k ∷ ks) r dn l e = above_all (suc n) b d ks r.1.1 dn l.1 e

  -- h is not below b, which is above k: h goes behind k
  goes_behind_lower : (h k : H) (b : Float) → Number (key h) → Number (key k) → lt (key k) b ≡ true → lt (key h) b ≡ false → goes h k ≡ false
  goes_behind_lower h k b hn kn over far =
      let near : lt (key k) (key h) ≡ true = ⊎_elim (λ n. n) (λ n. both_ways (lt (key h) b) n far) (less_between (key k) (key h) b hn over) in
      let less : lt (key h) (key k) ≡ false = less_asymmetric (key k) (key h) near in
      rw (equal_is (key h) (key k) hn kn) (simp (less, near))

  last_stays : (n : ℕ) (h : H) (b : Float) (ks : List H) → Number (key h) → Rises ks → length ks ≤ n → lt (key h) b ≡ false → over n b ks ≡ true
      → take n (put h ks) ≡ ks
  unfolding above_last
  last_stays zero h b ks hn r l far e = absurd (false≢true e)
  last_stays (suc n) h b [] hn r l far e = absurd (false≢true e)
  last_stays (suc zero) h b (k ∷ []) hn r l far e = ap (take 1) (goes_behind h k [] (goes_behind_lower h k b hn r.0 e far))
  last_stays (suc zero) h b (k ∷ j ∷ ks) hn r l far e = absurd (omega arith)
  last_stays (suc (suc n)) h b (k ∷ ks) hn r l far e =
      let over : lt (key k) b ≡ true = above_all (suc n) b (key k) ks r.1.1 r.0 r.1.0 e in
      ap (take (suc (suc n))) (goes_behind h k ks (goes_behind_lower h k b hn r.0 over far))
      ∙ ap (λ (l : List H). k ∷ l) (last_stays (suc n) h b ks hn r.1.1 (omega arith) far e)

  -- ---- what is above the last stays so
  -- above the last of some is above the last as far on with one more before them
  above_one_more : (more : ℕ) (d : Float) (k : H) (ks : List H) → Rises (k ∷ ks) → over (suc more) d ks ≡ true
      → over (suc more) d (k ∷ ks) ≡ true
  unfolding above_last
  above_one_more more d k [] r e = absurd (false≢true e)
  above_one_more zero d k (j ∷ js) r e = ⊎_elim (λ c. both_ways _ c r.1.0.0) (λ c. c) (less_between (key j) (key k) d r.0 e)
  above_one_more (suc more) d k (j ∷ js) r e = above_one_more more d j js r.1.1 e

  above_inserted : (n : ℕ) (d : Float) (h : H) (ks : List H) → Number (key h) → Rises ks → over n d ks ≡ true
      → over n d (put h ks) ≡ true
  unfolding above_last
  above_inserted zero d h ks hn r e = absurd (false≢true e)
  above_inserted (suc n) d h [] hn r e = absurd (false≢true e)
  above_inserted (suc zero) d h (k ∷ ks) hn r e =
      ⊎_elim
      (λ (c : goes h k ≡ true).
      subst (λ (l : List H). over 1 d l ≡ true) (sym (goes_before h k ks c))
      (⊎_elim (λ x. both_ways _ x (before_not_below h k c hn r.0)) (λ x. x) (less_between (key k) (key h) d hn e)))
      (λ (c : goes h k ≡ false). subst (λ (l : List H). over 1 d l ≡ true) (sym (goes_behind h k ks c)) e)
      (either (goes h k))
  above_inserted (suc (suc n)) d h (k ∷ ks) hn r e =
      ⊎_elim
      (λ (c : goes h k ≡ true).
      subst (λ (l : List H). over (suc (suc n)) d l ≡ true) (sym (goes_before h k ks c)) (above_one_more n d k ks r e))
      (λ (c : goes h k ≡ false).
      subst (λ (l : List H). over (suc (suc n)) d l ≡ true) (sym (goes_behind h k ks c)) (above_inserted (suc n) d h ks hn r.1.1 e))
      (either (goes h k))

  -- the last that may be kept is not behind the cut
  above_cut : (n : ℕ) (d : Float) (ks : List H) → over n d (take n ks) ≡ over n d ks
  unfolding above_last
  above_cut zero d ks = refl
  above_cut (suc n) d [] = refl
  above_cut (suc zero) d (k ∷ ks) = refl
  above_cut (suc (suc n)) d (k ∷ ks) = above_cut (suc n) d ks

  -- ---- the laws of a search, for anything that bears its number
  -- as many as may be, numbers, rising
  abbrev pub FewGood : ℕ → List H → Type 0
  FewGood most ks = Rises ks × (length ks ≤ most)

  module _ (most : ℕ) (at : ℕ → H) (named : (t : ℕ) → number (at t) ≡ t) (counts : ℕ → Bool) (numeric : (t : ℕ) → counts t ≡ true → Number (key (at t))) where
    abbrev took : ℕ → List H → List H
    took t ks = offered_to key number most (counts t) (at t) ks

    not_counted_lem : (t : ℕ) (ks : List H) → counts t ≡ false → took t ks ≡ ks
    unfolding offered_to
    not_counted_lem t ks e = simp e

    counted : (t : ℕ) (ks : List H) → counts t ≡ true → took t ks ≡ take most (put (at t) ks)
    unfolding offered_to
    counted t ks e = simp e

    -- what is kept stays rising, whatever is offered
    pub rising_stays : (t : ℕ) (ks : List H) → Rises ks → Rises (took t ks)
    rising_stays t ks r =
        ⊎_elim
        (λ (c : counts t ≡ true).
        subst (Rises) (sym (counted t ks c))
        (rising_cut most (put (at t) ks) (rising_inserted (at t) ks (numeric t c) r)))
        (λ (c : counts t ≡ false). subst (Rises) (sym (not_counted_lem t ks c)) r)
        (either (counts t))

    -- and no more are kept than may be
    pub few_stays : (t : ℕ) (ks : List H) → FewGood most ks → FewGood most (took t ks)
    few_stays t ks g = (rising_stays t ks g.0, short)
      where
        short : length (took t ks) ≤ most
        short =
            ⊎_elim
            (λ (c : counts t ≡ true).
            subst (λ (l : List H). length l ≤ most) (sym (counted t ks c)) (cut_length most (put (at t) ks)))
            (λ (c : counts t ≡ false). subst (λ (l : List H). length l ≤ most) (sym (not_counted_lem t ks c)) g.1)
            (either (counts t))

    swap_counted : (t u : ℕ) (ks : List H) → FewGood most ks → (t ≡ u → ⊥) → counts t ≡ true → counts u ≡ true → took t (took u ks) ≡ took u (took t ks)
    swap_counted t u ks g ne c d =
        ap (took t) (counted u ks d) ∙ counted t (take most (put (at u) ks)) c ∙ cut_inserted most (at t) (put (at u) ks)
        ∙ ap (take most) (insert_swap (at t) (at u) (λ x. ne (sym (named t) ∙ x ∙ named u)) (numeric t c) (numeric u d) ks g.0)
        ∙ sym (cut_inserted most (at u) (put (at t) ks)) ∙ sym (counted u (take most (put (at t) ks)) d) ∙ sym (ap (took u) (counted t ks c))

    -- two may be offered in either order
    pub few_swaps : (t u : ℕ) (ks : List H) → FewGood most ks → took t (took u ks) ≡ took u (took t ks)
    few_swaps t u ks g = go (ℕ_discrete t u) (either (counts t)) (either (counts u))
      where
        go : Dec (t ≡ u) → (counts t ≡ true) ⊎ (counts t ≡ false) → (counts u ≡ true) ⊎ (counts u ≡ false) → took t (took u ks) ≡ took u (took t ks)
        go (yes e) c d = ap (λ (v : ℕ). took t (took v ks)) (sym e) ∙ ap (λ (v : ℕ). took v (took t ks)) e
        go (no e) (inl c) (inl d) = swap_counted t u ks g e c d
        go (no e) (inl c) (inr d) = ap (took t) (not_counted_lem u ks d) ∙ sym (not_counted_lem u (took t ks) d)
        go (no e) (inr c) d = not_counted_lem t (took u ks) c ∙ sym (ap (took u) (not_counted_lem t ks c))

    -- what is above the last stays so, whatever is offered: the last only comes nearer
    pub few_above : (d : Float) (t : ℕ) (ks : List H) → Rises ks → over most d ks ≡ true
        → over most d (took t ks) ≡ true
    few_above d t ks r e =
        ⊎_elim
        (λ (c : counts t ≡ true).
        ap (over most d) (counted t ks c) ∙ above_cut most d (put (at t) ks)
        ∙ above_inserted most d (at t) ks (numeric t c) r e)
        (λ (c : counts t ≡ false). ap (over most d) (not_counted_lem t ks c) ∙ e)
        (either (counts t))

    -- t does not count, or its key is not below b, which is above the last
    pub few_skips : (b : Float) (t : ℕ) (ks : List H) → FewGood most ks → (counts t ≡ true → (lt (key (at t)) b ≡ false) × (over most b ks ≡ true))
        → took t ks ≡ ks
    few_skips b t ks g h =
        ⊎_elim (λ c. counted t ks c ∙ last_stays most (at t) b ks (numeric t c) g.0 g.1 (h c).0 (h c).1) (λ c. not_counted_lem t ks c) (either (counts t))

    -- ---- what is kept is the front of the ranking
    -- each that counts put where it goes, with room for all
    abbrev pub ranked_in : ℕ → List H → List H
    ranked_in t ks = cond (counts t) (put (at t) ks) ks

    front_taken : (t : ℕ) (ks : List H) → took t (take most ks) ≡ take most (ranked_in t ks)
    unfolding offered_to
    front_taken t ks =
        ⊎_elim (λ (c : counts t ≡ true). simp c (cut_inserted most (at t) ks)) (λ (c : counts t ≡ false). simp c) (either (counts t))

    -- keeping the first few as they come is keeping all and cutting at the end
    pub front_kept : (ts : List ℕ) (ks : List H) → fold took ts (take most ks) ≡ take most (fold ranked_in ts ks)
    unfolding fold
    front_kept [] ks = refl
    front_kept (t ∷ ts) ks = ap (fold took ts) (front_taken t ks) ∙ front_kept ts (ranked_in t ks)

    -- ---- the ranking: all that counts of the first n, each once
    sides : (n : ℕ) (hs : List H) → ((h : H) → Memᴰ h hs → number h < n) → (t : ℕ) → n ≤ t → (h : H) → Memᴰ h hs → number (at t) ≡ number h → ⊥
    sides n hs below t l h m e = let k : number h < n = below h m in let q : number (at t) ≡ t = named t in absurd (omega arith)

    before_all_inserted : (x h : H) (ks : List H) → goes x h ≡ true → BeforeAll key number x ks → BeforeAll key number x (put h ks)
    unfolding inserted
    before_all_inserted x h [] e b = (e, tt)
    before_all_inserted x h (k ∷ ks) e b =
        ⊎_elim
        (λ (c : goes h k ≡ true). subst (BeforeAll key number x) (sym (goes_before h k ks c)) (e, b))
        (λ (c : goes h k ≡ false). subst (BeforeAll key number x) (sym (goes_behind h k ks c)) (b.0, before_all_inserted x h ks e b.1))
        (either (goes h k))

    -- h goes before k, and k before all the rest
    before_through : (h k : H) (ks : List H) → Number (key h) → Number (key k) → Rises ks → goes h k ≡ true → BeforeAll key number k ks
        → BeforeAll key number h ks
    before_through h k [] hn kn r e b = tt
    before_through h k (j ∷ ks) hn kn r e b = (
      to_before h j hn r.0 (less_trans h k j hn kn r.0 (of_before h k hn kn e) (of_before k j kn r.0 b.0)),
      before_through h k ks hn kn
          r.1.1 e b.1,
    )

    ranks_inserted : (h : H) (ks : List H) → Number (key h) → Rises ks → Ranks key number ks → ((k : H) → Memᴰ k ks → number h ≡ number k → ⊥)
        → Ranks key number (put h ks)
    unfolding inserted
    ranks_inserted h [] hn r o ne = (tt, tt)
    ranks_inserted h (k ∷ ks) hn r o ne =
        ⊎_elim
        (λ (c : goes h k ≡ true). subst (Ranks key number) (sym (goes_before h k ks c)) ((c, before_through h k ks hn r.0 r.1.1 c o.0), o))
        (λ (c : goes h k ≡ false).
        let back : goes k h ≡ true = before_one h k (ne k (Memᴰ.head refl)) hn r.0 ∙ ap not c in
        subst (Ranks key number) (sym (goes_behind h k ks c))
        (before_all_inserted k h ks back o.0, ranks_inserted h ks hn r.1.1 o.1 (λ j m. ne j (Memᴰ.tail m))))
        (either (goes h k))

    -- members of what h is put into
    mem_cons : (x k : H) (ks : List H) → Memᴰ x (k ∷ ks) → (x ≡ k) ⊎ Memᴰ x ks
    mem_cons x k ks (Memᴰ.head e) = inl e
    mem_cons x k ks (Memᴰ.tail m) = inr m

    mem_inserted : (x h : H) (ks : List H) → Memᴰ x (put h ks) → (x ≡ h) ⊎ Memᴰ x ks
    unfolding inserted
    mem_inserted x h [] m = mem_cons x h [] m
    mem_inserted x h (k ∷ ks) m =
        ⊎_elim
        (λ (c : goes h k ≡ true). mem_cons x h (k ∷ ks) (subst (Memᴰ x) (goes_before h k ks c) m))
        (λ (c : goes h k ≡ false).
        ⊎_elim (λ (e : x ≡ k). inr (Memᴰ.head e))
        (λ (n : Memᴰ x (put h ks)). ⊎_elim (λ e. inl e) (λ n'. inr (Memᴰ.tail n')) (mem_inserted x h ks n))
        (mem_cons x k (put h ks) (subst (Memᴰ x) (goes_behind h k ks c) m)))
        (either (goes h k))

    inserted_there : (h : H) (ks : List H) → Memᴰ h (put h ks)
    unfolding inserted
    inserted_there h [] = Memᴰ.head refl
    inserted_there h (k ∷ ks) =
        ⊎_elim
        (λ (c : goes h k ≡ true). subst (Memᴰ h) (sym (goes_before h k ks c)) (Memᴰ.head refl))
        (λ (c : goes h k ≡ false). subst (Memᴰ h) (sym (goes_behind h k ks c)) (Memᴰ.tail (inserted_there h ks)))
        (either (goes h k))

    others_there : (x h : H) (ks : List H) → Memᴰ x ks → Memᴰ x (put h ks)
    unfolding inserted
    others_there x h [] m = Memᴰ.tail m
    others_there x h (k ∷ ks) m =
        ⊎_elim
        (λ (c : goes h k ≡ true). subst (Memᴰ x) (sym (goes_before h k ks c)) (Memᴰ.tail m))
        (λ (c : goes h k ≡ false).
        subst (Memᴰ x) (sym (goes_behind h k ks c))
        (⊎_elim (λ (e : x ≡ k). Memᴰ.head e) (λ (n : Memᴰ x ks). Memᴰ.tail (others_there x h ks n)) (mem_cons x k ks m)))
        (either (goes h k))

    no_member : {A : Type 0} (h : H) → Memᴰ h [] → A
    no_member h m = elim m [ ]

    pub record Ranking (n : ℕ) (hs : List H) : Type 0 where
      pub is : IsRanking key number at counts n hs
      pub rises : Rises hs

    one_ranked : (n : ℕ) (hs : List H) → Ranking n hs → Ranking (suc n) (ranked_in n hs)
    one_ranked n hs r = ⊎_elim yes_counts no_counts (either (counts n))
      where
        no_counts : counts n ≡ false → Ranking (suc n) (cond (counts n) (put (at n) hs) hs)
        no_counts c = rw c (record {
          is = record {
            ranks = r.is.ranks;
            theirs = λ h m. let q = r.is.theirs h m in (omega (arith, q.0), q.1);
            complete = λ t l k. ⊎_elim (λ (e : t ≡ n). both_ways (counts n) (subst (λ (j : ℕ). counts j ≡ true) e k) c)
                (λ (b : t < n). r.is.complete t b k) (eq-or-lt_of_le (le_of_suc-le-suc l));
          };
          rises = r.rises;
        })

        yes_counts : counts n ≡ true → Ranking (suc n) (cond (counts n) (put (at n) hs) hs)
        yes_counts c = rw c (record {
          is = record {
            ranks = ranks_inserted (at n) hs (numeric n c) r.rises r.is.ranks (sides n hs (λ h m. (r.is.theirs h m).0) n (omega arith));
            theirs = λ h m.
                ⊎_elim
                (λ (e : h ≡ at n).
                let q : number h ≡ n = ap number e ∙ named n in
                (omega arith, (e ∙ ap at (sym q), subst (λ (j : ℕ). counts j ≡ true) (sym q) c)))
                (λ (m' : Memᴰ h hs). let q = r.is.theirs h m' in (omega (arith, q.0), q.1))
                (mem_inserted h (at n) hs m);
            complete = λ t l k.
                ⊎_elim (λ (e : t ≡ n). subst (λ (j : ℕ). Memᴰ (at j) (put (at n) hs)) (sym e) (inserted_there (at n) hs))
                (λ (b : t < n). others_there (at t) (at n) hs (r.is.complete t b k)) (eq-or-lt_of_le (le_of_suc-le-suc l));
          };
          rises = rising_inserted (at n) hs (numeric n c) r.rises;
        })

    none_ranked : Ranking 0 []
    none_ranked = record { is = record { ranks = tt; theirs = λ h m. no_member h m; complete = λ t l k. absurd (omega arith) }; rises = tt }

    -- the ranking of the first n, and what is kept of them is its front
    pub ranked : (n : ℕ) → Ranking n (fold ranked_in (range n) [])
    unfolding range fold
    ranked zero = none_ranked
    ranked (suc n) = rw (kept_append ranked_in (range n) (n ∷ []) []) (one_ranked n _ (ranked n))

    -- what is kept of the first n is the front of their ranking
    pub kept_is_front : (n : ℕ) → fold took (range n) [] ≡ take most (fold ranked_in (range n) [])
    kept_is_front n = start most (front_kept (range n) [])
      where
        start : (m : ℕ) → fold took (range n) (take m []) ≡ take most (fold ranked_in (range n) [])
            → fold took (range n) [] ≡ take most (fold ranked_in (range n) [])
        start zero e = e
        start (suc m) e = e

  -- ---- what is kept stays sorted
  -- h does not go before k, nor k before j: h does not go before j
  pub behind_both : (h k j : H) → Number (key h) → Number (key k) → Number (key j) → goes h k ≡ false → goes k j ≡ false
      → goes h j ≡ false
  unfolding Less
  behind_both h k j hn kn jn a b = ⊎_elim (λ e. go (of_before h j hn jn e)) (λ e. e) (either (goes h j))
    where
      no_less : lt (key h) (key k) ≡ false
      no_less = behind_not_below h k a

      no_less' : lt (key k) (key j) ≡ false
      no_less' = behind_not_below k j b

      go : Less h j → goes h j ≡ false
      go (inl l) = ⊎_elim (λ x. both_ways _ x no_less) (λ x. both_ways _ x no_less') (less_between (key h) (key k) (key j) kn l)
      go (inr l) =
          let level : lt (key k) (key h) ≡ false =
          ⊎_elim (λ c. ⊎_elim (λ x. both_ways _ x no_less') (λ x. both_ways _ x l.1) (less_between (key k) (key j) (key h) jn c)) (λ c. c)
          (either (lt (key k) (key h))) in
          let level' : lt (key j) (key k) ≡ false =
          ⊎_elim (λ c. ⊎_elim (λ x. both_ways _ x l.1) (λ x. both_ways _ x no_less) (less_between (key j) (key h) (key k) hn c)) (λ c. c)
          (either (lt (key j) (key k))) in
          let low : number k ≤ number h = ltb-false (number h) (number k)
          (⊎_elim (λ c. both_ways _ (to_before h k hn kn (inr (no_less, level, ltb-true (number h) (number k) c))) a) (λ c. c)
          (either (ltb (number h) (number k)))) in
          let low' : number j ≤ number k = ltb-false (number k) (number j)
          (⊎_elim (λ c. both_ways _ (to_before k j kn jn (inr (no_less', level', ltb-true (number k) (number j) c))) b) (λ c. c)
          (either (ltb (number k) (number j)))) in
          absurd (omega (arith, l.2))

  -- nothing goes before itself
  pub not_before_self : (h : H) → Number (key h) → goes h h ≡ false
  unfolding Less
  not_before_self h hn = ⊎_elim (λ e. go (of_before h h hn hn e)) (λ e. e) (either (goes h h))
    where
      go : Less h h → goes h h ≡ false
      go (inl l) = both_ways _ l (less_asymmetric (key h) (key h) l)
      go (inr l) = absurd (omega (arith, l.2))

  -- h goes before k: none goes before h that does not go before k
  none_before_nearer : (h k : H) (ks : List H) → Number (key h) → Number (key k) → Sorted key number ks → goes h k ≡ true
      → NoneBefore key number k ks → NoneBefore key number h ks
  none_before_nearer h k [] hn kn r e b = tt
  none_before_nearer h k (j ∷ ks) hn kn r e b = (not_first h j k hn r.0 kn e b.0, none_before_nearer h k ks hn kn r.1.1 e b.1)

  none_before_inserted : (k h : H) (ks : List H) → goes h k ≡ false → NoneBefore key number k ks → NoneBefore key number k (put h ks)
  unfolding inserted
  none_before_inserted k h [] e b = (e, tt)
  none_before_inserted k h (j ∷ ks) e b =
      ⊎_elim
      (λ (c : goes h j ≡ true). subst (NoneBefore key number k) (sym (goes_before h j ks c)) (e, b))
      (λ (c : goes h j ≡ false). subst (NoneBefore key number k) (sym (goes_behind h j ks c)) (b.0, none_before_inserted k h ks e b.1))
      (either (goes h j))

  none_before_cut : (k : H) (n : ℕ) (ks : List H) → NoneBefore key number k ks → NoneBefore key number k (take n ks)
  none_before_cut k zero ks b = tt
  none_before_cut k (suc n) [] b = tt
  none_before_cut k (suc n) (j ∷ ks) b = (b.0, none_before_cut k n ks b.1)

  none_before_rises : (k : H) (ks : List H) → NoneBefore key number k ks → NotBelow key number (key k) ks
  none_before_rises k [] b = tt
  none_before_rises k (j ∷ ks) b = (behind_not_below j k b.0, none_before_rises k ks b.1)

  -- sorted things rise
  pub sorted_rises : (ks : List H) → Sorted key number ks → Rises ks
  sorted_rises [] r = tt
  sorted_rises (k ∷ ks) r = (r.0, (none_before_rises k ks r.1.0, sorted_rises ks r.1.1))

  -- the front of sorted things is sorted
  pub sorted_cut : (n : ℕ) (ks : List H) → Sorted key number ks → Sorted key number (take n ks)
  sorted_cut zero ks r = tt
  sorted_cut (suc n) [] r = tt
  sorted_cut (suc n) (k ∷ ks) r = (r.0, (none_before_cut k n ks r.1.0, sorted_cut n ks r.1.1))

  -- one more, put where it goes, leaves them sorted
  pub sorted_inserted : (h : H) (ks : List H) → Number (key h) → Sorted key number ks → Sorted key number (put h ks)
  unfolding inserted
  sorted_inserted h [] hn r = (hn, (tt, tt))
  sorted_inserted h (k ∷ ks) hn r =
      ⊎_elim
      (λ (c : goes h k ≡ true).
      subst (Sorted key number) (sym (goes_before h k ks c))
      (hn, ((not_first h k k hn r.0 r.0 c (not_before_self k r.0), none_before_nearer h k ks hn r.0 r.1.1 c r.1.0), r)))
      (λ (c : goes h k ≡ false).
      subst (Sorted key number) (sym (goes_behind h k ks c)) (r.0, (none_before_inserted k h ks c r.1.0, sorted_inserted h ks hn r.1.1)))
      (either (goes h k))

  -- what is kept stays sorted, whatever is offered
  pub sorted_stays : (most : ℕ) (counts : Bool) (h : H) (ks : List H) → (counts ≡ true → Number (key h)) → Sorted key number ks
      → Sorted key number (offered_to key number most counts h ks)
  unfolding offered_to
  sorted_stays most true h ks numeric r = sorted_cut most (put h ks) (sorted_inserted h ks (numeric refl) r)
  sorted_stays most false h ks numeric r = r
