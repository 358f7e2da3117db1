-- 71: the order list passes exactly where it is a permutation of 0 to n - 1, and else the place is at most n.
use mathlib.Core.Path.{◌≡◌, refl, sym, ap, ◌∙◌}
use mathlib.Core.Bool.{Bool, true, false, not, ◌&&◌, false≢true}
use mathlib.Core.List.{List, [], ◌∷◌, ◌++◌}
use Prim.Native.Nat.{ℕ, zero, suc, min, ◌≤◌, ◌<◌}
use native.Mathlib.Omega.{arith}
use lib.Dec.{ltb, eqb}
use lib.ListN.{length, get_or, take, drop, take-append-drop, length-take}
use lib.Seq.{take-suc, take-length}
use Rattle.spec_numbers.proofs.Tests.{both_passed, both_pass}
use Rattle.spec_lists.specs.Refusals.{passes}
use Rattle.spec_lists.proofs.Verdicts.{all_pass, then_passes, so, test_has, row_ends, row_has}
use Rattle.spec_tree.specs.Order.{occurs, distinct, all_below, permutes}
use Rattle.spec_tree.specs.Reasons.{is_new, order_refusal}
use Rattle.spec_tree.proofs.Failing.{Tells, before_holds, where_passes, where_passed, where_has}
use Rattle.spec_tree.proofs.Order.{below_append, distinct_more, twice_before, distinct_few}

distinct_front : (xs ys : List ℕ) → distinct (xs ++ ys) ≡ true → distinct xs ≡ true
distinct_front xs ys h = go (distinct xs) refl
  where
    go : (b : Bool) → distinct xs ≡ b → distinct xs ≡ true
    go true p = p
    go false p = absurd (false≢true (sym (twice_before xs ys p) ∙ h))

module _ (n : ℕ) (order : List ℕ) where
  one_more : (i : ℕ) → i < length order → take (suc i) order ≡ take i order ++ (get_or order i 0 ∷ [])
  one_more i h = take-suc order i 0 h

  -- ---- the entries of a permutation are new
  below_front : (i : ℕ) → all_below n order ≡ true → all_below n (take i order) ≡ true
  below_front i h =
      (both_passed (all_below n (take i order)) (all_below n (drop i order))
      (sym (below_append n (take i order) (drop i order)) ∙ ap (all_below n) (take-append-drop i order) ∙ h)).0

  apart_front : (i : ℕ) → distinct order ≡ true → distinct (take i order) ≡ true
  apart_front i h = distinct_front (take i order) (drop i order) (ap distinct (take-append-drop i order) ∙ h)

  entry_new : (i : ℕ) → i < length order → all_below n order ≡ true → distinct order ≡ true → is_new n order i ≡ true
  unfolding is_new all_below
  entry_new i h b d =
      let entry : ℕ = get_or order i 0 in
      let fronts-below = sym (below_append n (take i order) (entry ∷ [])) ∙ ap (all_below n) (sym (one_more i h)) ∙ below_front (suc i) b in
      let fronts-apart = sym (distinct_more (take i order) entry) ∙ ap distinct (sym (one_more i h)) ∙ apart_front (suc i) d in
      let below = (both_passed (all_below n (take i order)) _ fronts-below).1 in
      both_pass _ _ (both_passed (ltb entry n) true below).0 (both_passed (distinct (take i order)) _ fronts-apart).1

  -- a permutation passes
  pub order_passes : permutes n order ≡ true → order_refusal n order ≡ passes
  unfolding order_refusal permutes
  order_passes h =
      let outer = both_passed (eqb (length order) n && all_below n order) (distinct order) h in
      let inner = both_passed (eqb (length order) n) (all_below n order) outer.0 in
      let new : (i : ℕ) → i < length order → is_new n order i ≡ true = λ i b. entry_new i b inner.1 outer.1 in
      then_passes _ (where_passes (is_new n order) (length order) 71 new, (rw inner.0, tt))

  -- ---- entries that are new are a permutation's
  new_front : (i : ℕ) → i ≤ length order → ((k : ℕ) → k < i → is_new n order k ≡ true) → (all_below n (take i order) ≡ true) × (distinct (take i order) ≡ true)
  unfolding is_new all_below distinct
  new_front zero h new = (refl, refl)
  new_front (suc i) h new =
      let entry : ℕ = get_or order i 0 in
      let before = new_front i (omega arith) (λ (k : ℕ) (b : k < i). new k (omega arith)) in
      let here = both_passed (ltb entry n) (not (occurs entry (take i order))) (new i (omega arith)) in (
        ap (all_below n) (one_more i h) ∙ below_append n (take i order) (entry ∷ []) ∙ both_pass _ _ before.0 (both_pass _ _ here.0 refl),
        ap distinct (one_more i h) ∙ distinct_more (take i order) entry ∙ both_pass _ _ before.1 here.1,
      )

  -- what passes is a permutation
  pub order_passed : order_refusal n order ≡ passes → permutes n order ≡ true
  unfolding order_refusal permutes
  order_passed h =
      let both = all_pass _ h in
      let front = new_front (length order) (omega arith) (where_passed (is_new n order) (length order) 71 both.0) in
      both_pass _ _ (both_pass _ _ (so (eqb (length order) n) 71 _ both.1.0) (ap (all_below n) (sym (take-length order)) ∙ front.0))
      (ap distinct (sym (take-length order)) ∙ front.1)

  -- ---- the place
  -- the entries before the first that is not new are at most n
  new_few : (i : ℕ) → i ≤ length order → ((k : ℕ) → k < i → is_new n order k ≡ true) → i ≤ n
  new_few i h new =
      let front = new_front i h new in
      omega (arith, distinct_few n (take i order) front.0 front.1, length-take i order)

  -- a refusal is 71, at a place of at most n
  pub order_placed : Tells 71 n (order_refusal n order)
  unfolding order_refusal
  order_placed =
      row_has (Tells 71 n) tt _ _
      (where_has (is_new n order) (length order) 71 (Tells 71 n) tt
      (λ h. (refl, new_few _ (omega arith) (before_holds (is_new n order) (length order)))))
      (λ p. row_has (Tells 71 n) tt _ _ (test_has (Tells 71 n) tt (not (eqb (length order) n)) 71 (min (length order) n) (λ e. (refl, omega arith)))
      (λ q. row_ends (Tells 71 n) tt))
