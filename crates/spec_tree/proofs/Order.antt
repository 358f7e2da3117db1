-- The test of the order list says yes exactly where it is a permutation of 0 to n - 1; and what its slices keep.
use mathlib.Core.Path.{◌≡◌, refl, sym, ap, ◌∙◌}
use mathlib.Core.Bool.{Bool, true, false, not, ◌&&◌, ◌||◌, true≢false, or-true, or_assoc, and_assoc, and-false}
use mathlib.Core.Logic.{⊎_elim}
use mathlib.Core.List.Memᴰ
use mathlib.Core.List.Permᴰ
use mathlib.Core.List.{List, [], ◌∷◌, ◌++◌, Memᴰ, Permᴰ}
use Prim.Native.Nat.{ℕ, zero, suc, ◌+◌, ◌-◌, ◌≤◌, ◌<◌}
use native.Mathlib.Omega.{arith}
use native.Mathlib.Decide.{ℕ_discrete, dec_lt}
use borrow.Author.Tests.{eqb-true, eq-eqb, ne_eqb, ltb-true, lt-ltb, not-true}
use lib.Dec.{ltb, eqb}
use lib.ListN.{length, get_or, drop, length-append, length-take, length-drop}
use lib.Seq.{get_or-take, get_or-drop}
use Rattle.spec_numbers.proofs.Tests.{both_passed}
use Rattle.spec_tables.specs.Tables.{slice}
use Rattle.spec_tree.specs.Order.{range, Permutes, EntriesBelow, occurs, distinct, all_below, permutes}

-- ---- a list with no number twice, whose numbers are all in another that is no longer, is a permutation of it
-- a member is taken out
pub record Without (k : ℕ) (l : List ℕ) : Type 0 where
  pub rest : List ℕ
  pub same : Permᴰ (k ∷ rest) l
  pub shorter : suc (length rest) ≡ length l
  pub others : (j : ℕ) → Memᴰ j l → (j ≡ k → ⊥) → Memᴰ j rest

without : (k : ℕ) (l : List ℕ) → Memᴰ k l → Without k l
without k (x ∷ xs) (Memᴰ.head p) =
    record {
      rest = xs;
      same = Permᴰ.cons p (Permᴰ.refl xs);
      shorter = refl;
      others = λ j m n. ⊎_elim (λ q. absurd (n (q ∙ sym p))) (λ m'. m') (Memᴰ.cases_cons m);
    }
without k (x ∷ xs) (Memᴰ.tail m) =
    let w : Without k xs = without k xs m in
    record {
      rest = x ∷ w.rest;
      same = Permᴰ.trans (Permᴰ.swap refl refl) (Permᴰ.cons refl w.same);
      shorter = ap suc w.shorter;
      others = λ j n d. ⊎_elim (λ q. Memᴰ.head q) (λ n'. Memᴰ.tail (w.others j n' d)) (Memᴰ.cases_cons n);
    }
without k [] x' = elim x' [ ]

occurs_member : (k : ℕ) (l : List ℕ) → Memᴰ k l → occurs k l ≡ true
unfolding occurs
occurs_member k (x ∷ xs) (Memᴰ.head p) = rw (eq-eqb x k (sym p))
occurs_member k (x ∷ xs) (Memᴰ.tail m) = rw (occurs_member k xs m) (or-true (eqb x k))
occurs_member k [] x' = elim x' [ ]

distinct_parts : (x : ℕ) (xs : List ℕ) → distinct (x ∷ xs) ≡ true → (occurs x xs ≡ false) × (distinct xs ≡ true)
unfolding distinct
distinct_parts x xs h = let both = both_passed (not (occurs x xs)) (distinct xs) h in (not-true (occurs x xs) both.0, both.1)

fills : (xs ys : List ℕ) → distinct xs ≡ true → ((j : ℕ) → Memᴰ j xs → Memᴰ j ys) → length ys ≤ length xs → Permᴰ xs ys
fills [] [] d m w = Permᴰ.nil
fills [] (y ∷ ys) d m w = absurd (omega arith)
fills (x ∷ xs) ys d m w =
    let parts = distinct_parts x xs d in
    let out : Without x ys = without x ys (m x (Memᴰ.head refl)) in
    let inside : (j : ℕ) → Memᴰ j xs → Memᴰ j out.rest =
    λ j n. out.others j (m j (Memᴰ.tail n)) (λ e. true≢false (sym (occurs_member x xs (Memᴰ.cast (sym e) n)) ∙ parts.0))
    in
    Permᴰ.trans (Permᴰ.cons refl (fills xs out.rest parts.1 inside (omega (arith, out.shorter)))) out.same

-- ---- 0, 1, .. n - 1
range_length : (n : ℕ) → length (range n) ≡ n
unfolding range
range_length zero = refl
range_length (suc n) = length-append (range n) (n ∷ []) ∙ omega (arith, range_length n)

range_has : (n k : ℕ) → k < n → Memᴰ k (range n)
unfolding range
range_has zero k h = absurd (omega arith)
range_has (suc n) k h = at (dec_lt k n) (range_has n k)
  where
    at : Dec (k < n) → (k < n → Memᴰ k (range n)) → Memᴰ k (range n ++ (n ∷ []))
    at (yes b) m = Memᴰ.append_left (n ∷ []) (m b)
    at (no b) m = Memᴰ.append_right (range n) (Memᴰ.head (omega arith))

below_each : (n : ℕ) (l : List ℕ) → all_below n l ≡ true → (k : ℕ) → Memᴰ k l → k < n
unfolding all_below
below_each n (x ∷ xs) h k (Memᴰ.head p) = rw p (ltb-true x n (both_passed (ltb x n) (all_below n xs) h).0)
below_each n (x ∷ xs) h k (Memᴰ.tail m) = below_each n xs (both_passed (ltb x n) (all_below n xs) h).1 k m
below_each n [] h k x'' = elim x'' [ ]

-- soundness of the test: an order list that passes is a permutation of 0 to n - 1
pub test_permutes : (n : ℕ) (order : List ℕ) → permutes n order ≡ true → Permutes n order
unfolding permutes
test_permutes n order h =
    let outer = both_passed (eqb (length order) n && all_below n order) (distinct order) h in
    let inner = both_passed (eqb (length order) n) (all_below n order) outer.0 in
    let long : length order ≡ n = eqb-true (length order) n inner.0 in
    fills order (range n) outer.1 (λ j m. range_has n j (below_each n order inner.1 j m)) (omega (arith, range_length n))

-- ---- the test says the same of two lists that are permutations of each other
-- a permutation keeps the length
pub permuted_length : {xs ys : List ℕ} → Permᴰ xs ys → length xs ≡ length ys
permuted_length Permᴰ.nil = refl
permuted_length (Permᴰ.cons e p) = ap suc (permuted_length p)
permuted_length (Permᴰ.swap e f) = refl
permuted_length (Permᴰ.trans p q) = permuted_length p ∙ permuted_length q

-- numbers below n, none of them twice, are at most n: so an entry beyond the first n is out of range or repeated
pub distinct_few : (n : ℕ) (xs : List ℕ) → all_below n xs ≡ true → distinct xs ≡ true → length xs ≤ n
distinct_few n xs b d = go (dec_lt n (length xs))
  where
    go : Dec (n < length xs) → length xs ≤ n
    go (no h) = omega arith
    go (yes h) =
        let filled = fills xs (range n) d (λ j m. range_has n j (below_each n xs b j m)) (omega (arith, range_length n)) in
        omega (arith, permuted_length filled, range_length n)

or_swap : (a b c : Bool) → (a || (b || c)) ≡ (b || (a || c))
or_swap true true c = refl
or_swap true false c = refl
or_swap false true c = refl
or_swap false false c = refl

and_swap : (a b c : Bool) → (a && (b && c)) ≡ (b && (a && c))
and_swap true true c = refl
and_swap true false c = refl
and_swap false true c = refl
and_swap false false c = refl

-- a permutation keeps which numbers occur
pub permuted_occurs : (k : ℕ) {xs ys : List ℕ} → Permᴰ xs ys → occurs k xs ≡ occurs k ys
unfolding occurs
permuted_occurs k Permᴰ.nil = refl
permuted_occurs k (Permᴰ.cons e p) = λ i. eqb (e i) k || permuted_occurs k p i
permuted_occurs k (Permᴰ.swap {a = a} {b = b} {l = l} e f) =
    or_swap (eqb a k) (eqb b k) (occurs k l) ∙ (λ i. eqb (f i) k || (eqb (e i) k || occurs k l))
permuted_occurs k (Permᴰ.trans p q) = permuted_occurs k p ∙ permuted_occurs k q

permuted_below : (n : ℕ) {xs ys : List ℕ} → Permᴰ xs ys → all_below n xs ≡ all_below n ys
unfolding all_below
permuted_below n Permᴰ.nil = refl
permuted_below n (Permᴰ.cons e p) = λ i. ltb (e i) n && permuted_below n p i
permuted_below n (Permᴰ.swap {a = a} {b = b} {l = l} e f) =
    and_swap (ltb a n) (ltb b n) (all_below n l) ∙ (λ i. ltb (f i) n && (ltb (e i) n && all_below n l))
permuted_below n (Permᴰ.trans p q) = permuted_below n p ∙ permuted_below n q

same_either_way : (a b : ℕ) → eqb a b ≡ eqb b a
same_either_way a b = at (ℕ_discrete a b)
  where
    at : Dec (a ≡ b) → eqb a b ≡ eqb b a
    at (yes e) = eq-eqb a b e ∙ sym (eq-eqb b a (sym e))
    at (no e) = ne_eqb a b e ∙ sym (ne_eqb b a (λ f. e (sym f)))

distinct_swap : (e a b d : Bool) → (not (e || a) && (not b && d)) ≡ (not (e || b) && (not a && d))
distinct_swap true a b d = refl
distinct_swap false a b d = and_swap (not a) (not b) d

permuted_distinct : {xs ys : List ℕ} → Permᴰ xs ys → distinct xs ≡ distinct ys
unfolding distinct occurs
permuted_distinct Permᴰ.nil = refl
permuted_distinct (Permᴰ.cons {b = b} {l₁ = l₁} {l₂ = l₂} e p) =
    (λ i. not (occurs (e i) l₁) && permuted_distinct p i) ∙ ap (λ (o : Bool). not o && distinct l₂) (permuted_occurs b p)
permuted_distinct (Permᴰ.swap {a = a} {b = b} {l = l} e f) =
    ap (λ (o : Bool). not (o || occurs a l) && (not (occurs b l) && distinct l)) (same_either_way b a)
    ∙ distinct_swap (eqb a b) (occurs a l) (occurs b l) (distinct l)
    ∙ (λ i. not (eqb (e i) (f i) || occurs (f i) l) && (not (occurs (e i) l) && distinct l))
permuted_distinct (Permᴰ.trans p q) = permuted_distinct p ∙ permuted_distinct q

-- ---- two lists, one behind the other
-- a number occurs in the two where it occurs in one of them
pub occurs_append : (k : ℕ) (xs ys : List ℕ) → occurs k (xs ++ ys) ≡ (occurs k xs || occurs k ys)
unfolding occurs
occurs_append k [] ys = refl
occurs_append k (x ∷ xs) ys = rw (occurs_append k xs ys) (sym (or_assoc (eqb x k) (occurs k xs) (occurs k ys)))

-- the two have all numbers below n where each has
pub below_append : (n : ℕ) (xs ys : List ℕ) → all_below n (xs ++ ys) ≡ (all_below n xs && all_below n ys)
unfolding all_below
below_append n [] ys = refl
below_append n (x ∷ xs) ys = rw (below_append n xs ys) (sym (and_assoc (ltb x n) (all_below n xs) (all_below n ys)))

one_more : (o e d a : Bool) → (not (o || (e || false)) && (d && not a)) ≡ ((not o && d) && not (e || a))
one_more true e d a = refl
one_more false true true a = refl
one_more false true false a = refl
one_more false false d a = refl

-- a list with one entry more is distinct where it was and the entry is new: a turn of the loop with marks
pub distinct_more : (xs : List ℕ) (y : ℕ) → distinct (xs ++ (y ∷ [])) ≡ (distinct xs && not (occurs y xs))
unfolding distinct occurs
distinct_more [] y = refl
distinct_more (x ∷ xs) y =
    rw (occurs_append x xs (y ∷ []), distinct_more xs y, same_either_way y x)
    (one_more (occurs x xs) (eqb x y) (distinct xs) (occurs y xs))

-- a front with a number twice decides the whole list, so the loop with marks may end early
pub twice_before : (xs ys : List ℕ) → distinct xs ≡ false → distinct (xs ++ ys) ≡ false
unfolding distinct
twice_before [] ys h = absurd (true≢false h)
twice_before (x ∷ xs) ys h = at (occurs x xs) refl (twice_before xs ys)
  where
    at : (o : Bool) → occurs x xs ≡ o → (distinct xs ≡ false → distinct (xs ++ ys) ≡ false) → (not (occurs x (xs ++ ys)) && distinct (xs ++ ys)) ≡ false
    at true p rest = rw (occurs_append x xs ys, p)
    at false p rest = rw (rest (rw p at h)) (and-false (not (occurs x (xs ++ ys))))

-- ---- a permutation passes the test
range_free : (n k : ℕ) → n ≤ k → occurs k (range n) ≡ false
unfolding range occurs
range_free zero k h = refl
range_free (suc n) k h =
    rw (occurs_append k (range n) (n ∷ []), range_free n k (omega arith), ne_eqb n k (λ e. omega arith))

range_distinct : (n : ℕ) → distinct (range n) ≡ true
unfolding range distinct
range_distinct zero = refl
range_distinct (suc n) = rw (distinct_more (range n) n, range_distinct n, range_free n n (omega arith))

range_below : (n k : ℕ) → n ≤ k → all_below k (range n) ≡ true
unfolding range all_below
range_below zero k h = refl
range_below (suc n) k h =
    rw (below_append k (range n) (n ∷ []), range_below n k (omega arith), lt-ltb n k (omega arith))

-- completeness of the test: every permutation of 0 to n - 1 passes
pub permutes_test : (n : ℕ) (order : List ℕ) → Permutes n order → permutes n order ≡ true
unfolding permutes
permutes_test n order p =
    rw (permuted_below n p, permuted_distinct p, range_below n n (omega arith), range_distinct n, eq-eqb (length order) n (permuted_length p ∙ range_length n))

-- a permutation of 0 to n - 1 has n entries
pub permutes_length : (n : ℕ) (order : List ℕ) → Permutes n order → length order ≡ n
permutes_length n order p = permuted_length p ∙ range_length n

-- each member of a permutation of 0 to n - 1 is below n: it is a triangle's number
pub permutes_below : (n : ℕ) (order : List ℕ) → Permutes n order → (k : ℕ) → Memᴰ k order → k < n
permutes_below n order p k m = below_each n order (permuted_below n p ∙ range_below n n (omega arith)) k m

member_at : (l : List ℕ) (i : ℕ) → i < length l → Memᴰ (get_or l i 0) l
member_at [] i h = absurd (omega arith)
member_at (x ∷ xs) zero h = Memᴰ.head refl
member_at (x ∷ xs) (suc i) h = Memᴰ.tail (member_at xs i (omega arith))

-- the same by place: each entry is below n, so reading its triangle stays within the list
pub permutes_entries : (n : ℕ) (order : List ℕ) → Permutes n order → EntriesBelow n order
permutes_entries n order p i h = permutes_below n order p (get_or order i 0) (member_at order i h)

-- ---- a slice of the order list
-- a range that is not empty gives a slice that is not, so its box has a first triangle to start from
pub slice_some : (l : List ℕ) (a b : ℕ) → a < b → b ≤ length l → 0 < length (slice l a (b - a))
slice_some l a b h k = omega (arith, length-take (b - a) (drop a l), length-drop a l)

-- a slice keeps every entry below n, so reading its triangles stays within the list
pub slice_entries : (n : ℕ) (l : List ℕ) (a k : ℕ) → EntriesBelow n l → EntriesBelow n (slice l a k)
slice_entries n l a k e i h =
    let inside : i < k = omega (arith, length-take k (drop a l)) in
    let within : a + i < length l = omega (arith, length-take k (drop a l), length-drop a l) in
    rw (get_or-take k (drop a l) i 0 inside, get_or-drop a l i 0) (e (a + i) within)
