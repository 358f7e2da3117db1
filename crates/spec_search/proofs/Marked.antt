-- The walk as the code makes it, by the first rule alone and from markers in all places, keeps by either rule what the definition's walk keeps, with
-- markers in the spare places, and measures as many triangles: so the code of the walk knows no rule, and tests no place for being empty. The limit
-- squared is finite, as that of every search distance is.
use mathlib.Core.Path.{◌≡◌, refl, sym, ap, ◌∙◌}
use mathlib.Core.Bool.{Bool, true, false, not, cond, ◌&&◌, ◌||◌, true≢false, false≢true}
use mathlib.Core.Logic.{◌⊎◌, ⊎_elim}
use mathlib.Core.List.{List, [], ◌∷◌, ◌++◌, append-nil}
use Prim.Native.Nat.{ℕ, zero, suc, ◌+◌, ◌-◌, ◌≤◌, ◌<◌}
use native.Mathlib.Nat.{eq-or-lt_of_le, le_of_suc-le-suc}
use native.Mathlib.Omega.{arith}
use borrow.Author.Tests.{ne_eqb, lt-ltb}
use lib.Dec.{T, not_T, eqb}
use lib.ListN.{length, take, get_or, length-take}
use lib.Ieee.{Float, Format, inf, lt, le, eq}
use lib.Ieee.Bits.{is_true, is_false}
use Rattle.spec_numbers.proofs.Tests.{either, passed, failed, or_elim}
use Rattle.spec_numbers.proofs.Order.{transitive, lt→le, eq→le, lt→not_le, le_lt_transitive, not_lt→le}
use Rattle.spec_numbers.proofs.Comparisons.{less_number, less_asymmetric}
use Rattle.spec_shapes.specs.Points.{Point}
use Rattle.spec_lists.specs.Limits.{deepest}
use Rattle.spec_tree.specs.Order.{EntriesBelow}
use Rattle.spec_search.specs.Answers.{Hit, squared_of, number_of, nothing, found}
use Rattle.spec_search.specs.Rules.{Rule, strictly_below, below_or_equal, Limit, counts}
use Rattle.spec_search.specs.Ranked.{before, inserted, offered_to, above_last}
use Rattle.spec_search.specs.Sure.{hit}
use Rattle.spec_search.specs.Few.{offered_few, is_skipped, took_few, answer_in, node_squared, skipped_few, few_search, few_walk}
use Rattle.spec_search.specs.Marked.{below, walk_limit, no_triangle, marker, markers, padded, padded_in, marked_walk, unmarked}
use Rattle.spec_search.proofs.Ranked.{FewGood, goes_before, goes_behind, rising_inserted, rising_cut, cut_length}
use Rattle.spec_search.proofs.Rules.{counts_number}
use Rattle.spec_search.proofs.Alike.{walks_alike}

abbrev put : Hit → List Hit → List Hit
put = inserted squared_of number_of

abbrev goes : Hit → Hit → Bool
goes = before squared_of number_of

-- ---- flags
or_false : (a : Bool) → (a || false) ≡ a
or_false true = refl
or_false false = refl

or_true : (a b : Bool) → (a || true) ≡ (b || true)
or_true true true = refl
or_true true false = refl
or_true false true = refl
or_true false false = refl

and_true : (a : Bool) → (a && true) ≡ a
and_true true = refl
and_true false = refl

-- ---- lists with markers behind them
module _ (squared : Float) where
  length_markers : (n : ℕ) → length (markers n squared) ≡ n
  unfolding markers
  length_markers zero = refl
  length_markers (suc n) = ap suc (length_markers n)

  cut_markers : (m n : ℕ) → m ≤ n → take m (markers n squared) ≡ markers m squared
  unfolding markers
  cut_markers zero n l = refl
  cut_markers (suc m) zero l = absurd (omega arith)
  cut_markers (suc m) (suc n) l = ap (λ (x : List Hit). marker squared ∷ x) (cut_markers m n (le_of_suc-le-suc l))

  one_less : (m n : ℕ) → suc m - suc n ≡ m - n
  one_less m n = omega arith

  -- of a list and markers enough behind it, so many
  cut_padded : (most : ℕ) (x : List Hit) (n : ℕ) → length x ≤ most → most - length x ≤ n → take most (x ++ markers n squared) ≡ padded most squared x
  cut_padded most [] n l r = cut_markers most n (omega arith) ∙ ap (λ (k : ℕ). markers k squared) (none_less most)
    where
      none_less : (m : ℕ) → m ≡ m - 0
      none_less m = omega arith
  cut_padded zero (h ∷ x) n l r = absurd (omega arith)
  cut_padded (suc most) (h ∷ x) n l r =
      ap (λ (y : List Hit). h ∷ y) (cut_padded most x n (le_of_suc-le-suc l) (omega arith))
      ∙ ap (λ (k : ℕ). h ∷ (x ++ markers k squared)) (sym (one_less most (length x)))

  length_with : (b : List Hit) (n : ℕ) → length (b ++ markers n squared) ≡ length b + n
  length_with [] n = omega (arith, length_markers n)
  length_with (h ∷ b) n = omega (arith, length_with b n)

  -- ---- the last of the places
  above_markers : (n : ℕ) (d : Float) → above_last squared_of number_of (suc n) d (markers (suc n) squared) ≡ lt squared d
  unfolding above_last markers
  above_markers zero d = refl
  above_markers (suc n) d = above_markers n d

  above_padded : (total : ℕ) (b : List Hit) (n : ℕ) (d : Float) → total ≡ length b + suc n
      → above_last squared_of number_of total d (b ++ markers (suc n) squared) ≡ lt squared d
  unfolding above_last
  above_padded total [] n d e =
      let all : total ≡ suc n = omega (arith, e) in
      ap (λ (i : ℕ). above_last squared_of number_of i d (markers (suc n) squared)) all ∙ above_markers n d
  above_padded zero (h ∷ b) n d e = absurd (omega (arith, e))
  above_padded (suc zero) (h ∷ b) n d e = absurd (omega (arith, e))
  above_padded (suc (suc total)) (h ∷ b) n d e = above_padded (suc total) b n d (omega (arith, e))

above_short : (n : ℕ) (d : Float) (b : List Hit) → length b < n → above_last squared_of number_of n d b ≡ false
unfolding above_last
above_short zero d b l = refl
above_short (suc n) d [] l = refl
above_short (suc zero) d (h ∷ b) l = absurd (omega arith)
above_short (suc (suc n)) d (h ∷ b) l = above_short (suc n) d b (le_of_suc-le-suc l)

-- ---- a hit put among them
length_put : (h : Hit) (b : List Hit) → length (put h b) ≡ suc (length b)
unfolding inserted
length_put h [] = refl
length_put h (k ∷ b) = go (goes h k) (length_put h b)
  where
    go : (c : Bool) → length (put h b) ≡ suc (length b) → length (cond c (h ∷ k ∷ b) (k ∷ put h b)) ≡ suc (suc (length b))
    go true e = refl
    go false e = ap suc e

-- one that goes before the first of the rest goes among those before them
put_in_front : (h m : Hit) (b ms : List Hit) → goes h m ≡ true → put h (b ++ (m ∷ ms)) ≡ put h b ++ (m ∷ ms)
unfolding inserted
put_in_front h m [] ms e = goes_before squared_of number_of h m ms e
put_in_front h m (k ∷ b) ms e = go (goes h k) (put_in_front h m b ms e)
  where
    go : (c : Bool) → put h (b ++ (m ∷ ms)) ≡ put h b ++ (m ∷ ms)
        → cond c (h ∷ k ∷ (b ++ (m ∷ ms))) (k ∷ put h (b ++ (m ∷ ms))) ≡ cond c (h ∷ k ∷ b) (k ∷ put h b) ++ (m ∷ ms)
    go true q = refl
    go false q = ap (λ (x : List Hit). k ∷ x) q

take_all : (n : ℕ) (l : List Hit) → length l ≤ n → take n l ≡ l
take_all zero [] r = refl
take_all zero (h ∷ l) r = absurd (omega arith)
take_all (suc n) [] r = refl
take_all (suc n) (h ∷ l) r = ap (λ (x : List Hit). h ∷ x) (take_all n l (le_of_suc-le-suc r))

-- one that goes before the markers is put as if they were not there
put_padded : (most : ℕ) (squared : Float) (h : Hit) (b : List Hit) → goes h (marker squared) ≡ true → length b ≤ most
    → take most (put h (padded most squared b)) ≡ padded most squared (take most (put h b))
unfolding markers
put_padded most squared h b e r = go (most - length b) refl
  where
    long : length (put h b) ≡ suc (length b)
    long = length_put h b

    go : (n : ℕ) → most - length b ≡ n → take most (put h (padded most squared b)) ≡ padded most squared (take most (put h b))
    go zero q =
        ap (λ (n : ℕ). take most (put h (b ++ markers n squared))) q
        ∙ ap (λ (x : List Hit). take most (put h x)) (append-nil b)
        ∙ sym (append-nil (take most (put h b)))
        ∙ ap (λ (n : ℕ). take most (put h b) ++ markers n squared) (sym none)
      where
        none : most - length (take most (put h b)) ≡ 0
        none = omega (arith, length-take most (put h b), long, q, r)
    go (suc n) q =
        ap (λ (k : ℕ). take most (put h (b ++ markers k squared))) q
        ∙ ap (take most) (put_in_front h (marker squared) b (markers n squared) e)
        ∙ cut_padded squared most (put h b) (suc n) (omega (arith, long, q)) (omega (arith, long, q))
        ∙ ap (padded most squared) (sym (take_all most (put h b) (omega (arith, long, q))))

-- none of them has h before it
abbrev Behind : Hit → List Hit → Type 0
Behind h [] = Unit {0}
Behind h (k ∷ ks) = (goes h k ≡ false) × Behind h ks

-- so it is cut off
behind_cut : (h : Hit) (ks : List Hit) → Behind h ks → take (length ks) (put h ks) ≡ ks
unfolding inserted
behind_cut h [] b = refl
behind_cut h (k ∷ ks) b =
    ap (take (suc (length ks))) (goes_behind squared_of number_of h k ks b.0) ∙ ap (λ (x : List Hit). k ∷ x) (behind_cut h ks b.1)

behind_append : (h : Hit) (xs ys : List Hit) → Behind h xs → Behind h ys → Behind h (xs ++ ys)
behind_append h [] ys b c = c
behind_append h (x ∷ xs) ys b c = (b.0, behind_append h xs ys b.1 c)

behind_markers : (h : Hit) (squared : Float) (n : ℕ) → goes h (marker squared) ≡ false → Behind h (markers n squared)
unfolding markers
behind_markers h squared zero e = tt
behind_markers h squared (suc n) e = (e, behind_markers h squared n e)

-- ---- what is at the limit or nearer, by the second rule
module _ (squared : Float) (bounded : lt squared (inf false) ≡ true) where
  near_finite : (d : Float) → le d squared ≡ true → lt d (inf false) ≡ true
  near_finite d h = is_true (lt d (inf false)) (le_lt_transitive d squared (inf false) (passed h) (passed bounded))

  -- beyond the limit is above it, or no finite number
  beyond : (d : Float) → not (le d squared) ≡ (not (lt d (inf false)) || lt squared d)
  beyond d = ⊎_elim finite infinite (either (lt d (inf false)))
    where
      infinite : lt d (inf false) ≡ false → not (le d squared) ≡ (not (lt d (inf false)) || lt squared d)
      infinite e =
          ⊎_elim (λ (h : le d squared ≡ true). absurd (true≢false (sym (near_finite d h) ∙ e))) (λ (h : le d squared ≡ false). rw (h, e))
          (either (le d squared))

      finite : lt d (inf false) ≡ true → not (le d squared) ≡ (not (lt d (inf false)) || lt squared d)
      finite e =
          rw e (⊎_elim
          (λ (h : lt squared d ≡ true). rw (h, is_false (le d squared) (not_T (le d squared) (lt→not_le squared d (passed h)))))
          (λ (h : lt squared d ≡ false).
          rw (h, is_true (le d squared) (not_lt→le squared d (less_number squared (inf false) bounded) (less_number d (inf false) e) (failed h))))
          (either (lt squared d)))

-- ---- what the walk keeps, and what the definition's walk keeps
-- each counts and is a triangle's
module _ (limit : Limit) where
  abbrev Counted : List Hit → Type 0
  Counted [] = Unit {0}
  Counted (h ∷ hs) = ((counts limit h.squared ≡ true) × (h.triangle < no_triangle)) × Counted hs

  counted_put : (h : Hit) (ks : List Hit) → counts limit h.squared ≡ true → h.triangle < no_triangle → Counted ks → Counted (put h ks)
  unfolding inserted
  counted_put h [] c n k = ((c, n), tt)
  counted_put h (j ∷ ks) c n k = go (goes h j) (counted_put h ks c n k.1)
    where
      go : (b : Bool) → Counted (put h ks) → Counted (cond b (h ∷ j ∷ ks) (j ∷ put h ks))
      go true r = ((c, n), k)
      go false r = (k.0, r)

  counted_cut : (n : ℕ) (ks : List Hit) → Counted ks → Counted (take n ks)
  counted_cut zero ks k = tt
  counted_cut (suc n) [] k = tt
  counted_cut (suc n) (h ∷ ks) k = (k.0, counted_cut n ks k.1)

  -- a place is answered as what is kept there, and a spare one as nothing
  place_answers : (most : ℕ) (ks : List Hit) (j : ℕ) (other : Hit) → Counted ks → j < most
      → unmarked (get_or (padded most limit.squared ks) j other) ≡ answer_in ks j
  unfolding answer_in unmarked markers
  place_answers most [] j other k l =
      ap (λ (h : Hit). cond (eqb h.triangle no_triangle) nothing (found h)) (spare (most - 0) j (omega arith))
    where
      spare : (n i : ℕ) → i < n → get_or (markers n limit.squared) i other ≡ marker limit.squared
      spare zero i b = absurd (omega arith)
      spare (suc n) zero b = refl
      spare (suc n) (suc i) b = spare n i (le_of_suc-le-suc b)
  place_answers most (h ∷ ks) zero other k l = rw (ne_eqb h.triangle no_triangle (λ (e : h.triangle ≡ no_triangle). omega (arith, k.0.1)))
  place_answers zero (h ∷ ks) (suc j) other k l = absurd (omega arith)
  place_answers (suc most) (h ∷ ks) (suc j) other k l =
      ap (λ (n : ℕ). unmarked (get_or (ks ++ markers n limit.squared) j other)) (one_less limit.squared most (length ks))
      ∙ place_answers most ks j other k.1 (le_of_suc-le-suc l)

module _ (most : ℕ) (some : 1 ≤ most) (limit : Limit) where
  pub record Alike (a b : List Hit) : Type 0 where
    pub padded_is : a ≡ padded most limit.squared b
    pub good : FewGood squared_of number_of most b
    pub counted : Counted limit b

  -- both take h
  both_take : (h : Hit) (a b : List Hit) → h.triangle < no_triangle → counts limit h.squared ≡ true → goes h (marker limit.squared) ≡ true → Alike a b
      → Alike (take most (put h a)) (take most (put h b))
  both_take h a b n c g k = record {
    padded_is = ap (λ (x : List Hit). take most (put h x)) k.padded_is ∙ put_padded most limit.squared h b g k.good.1;
    good = (
      rising_cut squared_of number_of most (put h b) (rising_inserted squared_of number_of h b (counts_number limit _ c) k.good.0),
      cut_length squared_of number_of most (put h b),
    );
    counted = counted_cut limit most (put h b) (counted_put limit h b c n k.counted);
  }

  length_alike : (a b : List Hit) → Alike a b → length a ≡ most
  length_alike a b k = ap length k.padded_is ∙ length_with limit.squared b (most - length b) ∙ omega (arith, k.good.1)

  -- h takes no place
  cut_off : (h : Hit) (a b : List Hit) → goes h (marker limit.squared) ≡ false → Behind h b → Alike a b → take most (put h a) ≡ a
  cut_off h a b g r k =
      ap (λ (n : ℕ). take n (put h a)) (sym (length_alike a b k))
      ∙ behind_cut h a (rw k.padded_is (behind_append h b _ r (behind_markers h limit.squared (most - length b) g)))

  -- places that are all filled, or some spare
  filled : (a b : List Hit) → Alike a b → length b ≡ most → a ≡ b
  unfolding markers
  filled a b k e =
      let none : most - length b ≡ 0 = omega (arith, e) in
      k.padded_is ∙ ap (λ (n : ℕ). b ++ markers n limit.squared) none ∙ append-nil b

  spare_above : (d : Float) (a b : List Hit) → Alike a b → length b < most → above_last squared_of number_of most d a ≡ lt limit.squared d
  spare_above d a b k l = go (most - length b) refl
    where
      go : (n : ℕ) → most - length b ≡ n → above_last squared_of number_of most d a ≡ lt limit.squared d
      go zero q = absurd (omega (arith, l, q))
      go (suc n) q =
          ap (above_last squared_of number_of most d) (k.padded_is ∙ ap (λ (i : ℕ). b ++ markers i limit.squared) q)
          ∙ above_padded limit.squared most b n d (omega (arith, l, q))

-- ---- by the first rule both are one search
module _ (most : ℕ) (some : 1 ≤ most) (squared : Float) where
  abbrev first : Limit
  first = record { rule = strictly_below; squared = squared }

  or_above : (d : Float) → (not (lt d squared) || lt squared d) ≡ (not (lt d squared) || false)
  or_above d =
      ⊎_elim (λ (e : lt squared d ≡ true). rw (e, less_asymmetric squared d e)) (λ (e : lt squared d ≡ false). rw e) (either (lt squared d))

  skips_first : (d : Float) (a b : List Hit) → Alike most some first a b → is_skipped most (below squared) d a ≡ is_skipped most first d b
  unfolding is_skipped counts
  skips_first d a b k = ⊎_elim full spare (eq-or-lt_of_le k.good.1)
    where
      full : length b ≡ most → (not (lt d squared) || above_last squared_of number_of most d a)
          ≡ (not (lt d squared) || above_last squared_of number_of most d b)
      full e = ap (λ (x : List Hit). not (lt d squared) || above_last squared_of number_of most d x) (filled most some first a b k e)

      spare : length b < most → (not (lt d squared) || above_last squared_of number_of most d a)
          ≡ (not (lt d squared) || above_last squared_of number_of most d b)
      spare l = rw (spare_above most some first d a b k l, above_short most d b l) (or_above d)

  takes_first : (h : Hit) (a b : List Hit) → h.triangle < no_triangle → Alike most some first a b
      → Alike most some first (offered_few most (below squared) h a) (offered_few most first h b)
  unfolding offered_few offered_to counts
  takes_first h a b n k =
      ⊎_elim
      (λ (c : lt h.squared squared ≡ true). rw c (both_take most some first h a b n c (rw c refl) k))
      (λ (c : lt h.squared squared ≡ false). rw c k)
      (either (lt h.squared squared))

-- ---- by the second
module _ (most : ℕ) (some : 1 ≤ most) (squared : Float) (bounded : lt squared (inf false) ≡ true) where
  abbrev second : Limit
  second = record { rule = below_or_equal; squared = squared }

  -- once as many are kept as may be, what is beyond the limit is above the last
  above_counted : (n : ℕ) (d : Float) (b : List Hit) → length b ≡ suc n → Counted second b → lt squared d ≡ true
      → above_last squared_of number_of (suc n) d b ≡ true
  unfolding above_last counts
  above_counted n d [] e k l = absurd (omega (arith, e))
  above_counted zero d (h ∷ b) e k l = is_true (lt h.squared d) (le_lt_transitive h.squared squared d (passed k.0.0) (passed l))
  above_counted (suc n) d (h ∷ b) e k l = above_counted n d b (omega (arith, e)) k.1 l

  skips_second : (d : Float) (a b : List Hit) → Alike most some second a b → is_skipped most (below (inf false)) d a ≡ is_skipped most second d b
  unfolding is_skipped counts
  skips_second d a b k = ⊎_elim full spare (eq-or-lt_of_le k.good.1)
    where
      last : (n : ℕ) → most ≡ n → length b ≡ most → lt squared d ≡ true → above_last squared_of number_of most d b ≡ true
      last zero q e l = absurd (omega (arith, q, some))
      last (suc n) q e l = ap (λ (i : ℕ). above_last squared_of number_of i d b) q ∙ above_counted n d b (e ∙ q) k.counted l

      decided : (x : Bool) → (lt squared d ≡ true → x ≡ true) → (not (lt d (inf false)) || x) ≡ (not (le d squared) || x)
      decided true h = or_true (not (lt d (inf false))) (not (le d squared))
      decided false h =
          rw (beyond squared bounded d)
          (⊎_elim (λ (e : lt squared d ≡ true). absurd (false≢true (h e)))
          (λ (e : lt squared d ≡ false). rw e (sym (or_false (not (lt d (inf false)) || false))))
          (either (lt squared d)))

      full : length b ≡ most
          → (not (lt d (inf false)) || above_last squared_of number_of most d a) ≡ (not (le d squared) || above_last squared_of number_of most d b)
      full e = rw (filled most some second a b k e) (decided _ (last most refl e))

      spare : length b < most
          → (not (lt d (inf false)) || above_last squared_of number_of most d a) ≡ (not (le d squared) || above_last squared_of number_of most d b)
      spare l =
          rw (spare_above most some second d a b k l, above_short most d b l)
          (sym (or_false (not (le d squared)) ∙ beyond squared bounded d))

  -- what counts goes before a marker, and nothing else does
  before_marker : (h : Hit) → h.triangle < no_triangle → goes h (marker squared) ≡ le h.squared squared
  unfolding le
  before_marker h l = rw (lt-ltb h.triangle no_triangle l, and_true (eq h.squared squared))

  -- what goes before a hit that counts, counts
  before_counts : (h k : Hit) → le k.squared squared ≡ true → goes h k ≡ true → le h.squared squared ≡ true
  before_counts h k c e =
      is_true (le h.squared squared) (transitive h.squared k.squared squared
      (or_elim (lt h.squared k.squared) _ (lt→le h.squared k.squared) (λ m. level (eq h.squared k.squared) _ refl m) (passed e)) (passed c))
    where
      level : (x y : Bool) → eq h.squared k.squared ≡ x → T (x && y) → T (le h.squared k.squared)
      level true y p m = eq→le h.squared k.squared (passed p)
      level false y p m = elim m [ ]

  behind_counted : (h : Hit) (b : List Hit) → le h.squared squared ≡ false → Counted second b → Behind h b
  unfolding counts
  behind_counted h [] e k = tt
  behind_counted h (j ∷ b) e k = (
    ⊎_elim (λ (g : goes h j ≡ true). absurd (true≢false (sym (before_counts h j k.0.0 g) ∙ e))) (λ g. g) (either (goes h j)),
    behind_counted h b e k.1,
  )

  takes_second : (h : Hit) (a b : List Hit) → h.triangle < no_triangle → Alike most some second a b
      → Alike most some second (offered_few most (below (inf false)) h a) (offered_few most second h b)
  unfolding offered_few offered_to counts
  takes_second h a b n k =
      ⊎_elim
      (λ (c : le h.squared squared ≡ true).
      rw (c, near_finite squared bounded h.squared c) (both_take most some second h a b n c (before_marker h n ∙ c) k))
      (λ (c : le h.squared squared ≡ false). rw c (left c (lt h.squared (inf false))))
      (either (le h.squared squared))
    where
      left : le h.squared squared ≡ false → (x : Bool) → Alike most some second (cond x (take most (put h a)) a) b
      left c true = rw (cut_off most some second h a b (before_marker h n ∙ c) (behind_counted h b c k.counted) k) k
      left c false = k

-- ---- by either
skips_by : (most : ℕ) (some : 1 ≤ most) (rule : Rule) (squared : Float) → lt squared (inf false) ≡ true → (d : Float) (a b : List Hit)
    → Alike most some (record { rule = rule; squared = squared }) a b
    → is_skipped most (below (walk_limit rule squared)) d a ≡ is_skipped most (record { rule = rule; squared = squared }) d b
skips_by most some strictly_below squared bounded = skips_first most some squared
skips_by most some below_or_equal squared bounded = skips_second most some squared bounded

takes_by : (most : ℕ) (some : 1 ≤ most) (rule : Rule) (squared : Float) → lt squared (inf false) ≡ true → (h : Hit) (a b : List Hit)
    → h.triangle < no_triangle
    → Alike most some (record { rule = rule; squared = squared }) a b
    → Alike most some (record { rule = rule; squared = squared }) (offered_few most (below (walk_limit rule squared)) h a)
    (offered_few most (record { rule = rule; squared = squared }) h b)
takes_by most some strictly_below squared bounded = takes_first most some squared
takes_by most some below_or_equal squared bounded = takes_second most some squared bounded

-- ---- the walk
module _ (f : Format) (triangles : List Float) (order links : List ℕ) (boxes : List Float) (n nodes : ℕ) (listed : EntriesBelow n order) (low : n ≤ no_triangle)
    (p : Point) (most : ℕ) (some : 1 ≤ most) (rule : Rule) (squared : Float) (bounded : lt squared (inf false) ≡ true) where
  abbrev limit : Limit
  limit = record { rule = rule; squared = squared }

  hits_numbered : (t : ℕ) → t < n → (hit f triangles p t).triangle < no_triangle
  unfolding hit
  hits_numbered t l = omega arith

  node_skips : (node : ℕ) (a b : List Hit) → Alike most some limit a b
      → skipped_few f boxes p most (below (walk_limit rule squared)) node a ≡ skipped_few f boxes p most limit node b
  unfolding skipped_few
  node_skips node a b h = skips_by most some rule squared bounded (node_squared f boxes p node) a b h

  triangle_takes : (t : ℕ) → t < n → (a b : List Hit) → Alike most some limit a b
      → Alike most some limit (took_few f triangles p most (below (walk_limit rule squared)) t a) (took_few f triangles p most limit t b)
  unfolding took_few
  triangle_takes t l a b h = takes_by most some rule squared bounded (hit f triangles p t) a b (hits_numbered t l) h

  none_kept : Alike most some limit (markers most squared) []
  none_kept =
      let all : most ≡ most - 0 = omega arith in
      record { padded_is = ap (λ (k : ℕ). markers k squared) all; good = (tt, omega arith); counted = tt }

  abbrev code : List Hit
  code = (marked_walk f triangles order links boxes nodes p most limit).best

  abbrev said : List Hit
  said = (few_walk f triangles order links boxes nodes p most limit).best

  both : Alike most some limit code said
      × ((marked_walk f triangles order links boxes nodes p most limit).measured ≡ (few_walk f triangles order links boxes nodes p most limit).measured)
  unfolding few_walk marked_walk
  both =
      let walks = walks_alike (few_search f triangles boxes p most (below (walk_limit rule squared)))
      (few_search f triangles boxes p most limit) order links n listed
      (Alike most some limit) (λ l r. refl) node_skips triangle_takes (deepest - 1) (nodes - 1)
      (record { best = markers most squared; measured = 0 }) (record { best = []; measured = 0 })
      (record { bests = none_kept; counts = refl }) in
      (walks.bests, walks.counts)

  -- what the code walks is what the definition walks, by the rule: what is kept, with markers in the spare places, and the count
  pub marked_is_few : marked_walk f triangles order links boxes nodes p most limit
      ≡ padded_in most squared (few_walk f triangles order links boxes nodes p most limit)
  marked_is_few = λ i. record { best = both.0.padded_is i; measured = both.1 i }

  -- its places are answered as what is kept, and the spare ones as nothing
  pub marked_answers : (j : ℕ) (other : Hit) → j < most → unmarked (get_or (padded most squared said) j other) ≡ answer_in said j
  marked_answers j other l = place_answers limit most said j other both.0.counted l
