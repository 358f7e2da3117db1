-- The sort is stable: of those that are not before each other, each stays behind those that it stood behind.
use mathlib.Core.Path.{◌≡◌, refl, sym, ap, ◌∙◌}
use mathlib.Core.Bool.{Bool, true, false, cond, not, ◌&&◌, true≢false}
use mathlib.Core.List.{List, [], ◌∷◌}
use Prim.Native.Nat.{ℕ}
use Rattle.spec_tables.specs.Each.{Each}
use Rattle.spec_sort.specs.Sort.{inserted, sorted, equals, filter, Ordered}
use Rattle.spec_sort.proofs.Permutes.{each_sorted}
use Rattle.spec_sort.proofs.Merges.{inserted_nowhere, inserted_passes, inserted_stops}

neither : (p q : Bool) → not p && not q ≡ true → (p ≡ false) × (q ≡ false)
neither true q h = absurd (true≢false (sym h))
neither false true h = absurd (true≢false (sym h))
neither false false h = (refl, refl)

-- two that are not both picked may change places
pick_swaps : (p q : Bool) (x y : ℕ) (ys : List ℕ) → (p ≡ true → q ≡ true → ⊥)
    → cond q (y ∷ cond p (x ∷ ys) ys) (cond p (x ∷ ys) ys) ≡ cond p (x ∷ cond q (y ∷ ys) ys) (cond q (y ∷ ys) ys)
pick_swaps true true x y ys h = absurd (h refl refl)
pick_swaps true false x y ys h = refl
pick_swaps false true x y ys h = refl
pick_swaps false false x y ys h = refl

module _ {before : ℕ → ℕ → Bool} {Used : ℕ → Type 0} (o : Ordered before Used) (a : ℕ) (ua : Used a) where
  apart : (x y : ℕ) → Used x → Used y → before y x ≡ true → equals before a x ≡ true → equals before a y ≡ true → ⊥
  apart x y ux uy h p q =
      true≢false (sym h ∙ o.not_before_transitive y a x uy ua ux (neither (before a y) (before y a) q).1 (neither (before a x) (before x a) p).0)

  inserted_stable : (x : ℕ) (ys : List ℕ) → Used x → Each Used ys → filter (equals before a) (inserted before x ys) ≡ filter (equals before a) (x ∷ ys)
  inserted_stable x [] ux u = ap (filter (equals before a)) (inserted_nowhere before x)
  inserted_stable x (y ∷ ys) ux u = go (before y x) refl (inserted_stable x ys ux u.1)
    where
      go : (b : Bool) → before y x ≡ b → filter (equals before a) (inserted before x ys) ≡ filter (equals before a) (x ∷ ys)
          → filter (equals before a) (inserted before x (y ∷ ys)) ≡ filter (equals before a) (x ∷ (y ∷ ys))
      go true e ih =
          ap (filter (equals before a)) (inserted_passes before x y ys e)
          ∙ ap (λ (l : List ℕ). cond (equals before a y) (y ∷ l) l) ih
          ∙ pick_swaps (equals before a x) (equals before a y) x y (filter (equals before a) ys) (apart x y ux u.0 e)
      go false e ih = ap (filter (equals before a)) (inserted_stops before x y ys e)

  -- the elements that equal a given one stand in the same order before and after the sort
  pub sorted_stable : (xs : List ℕ) → Each Used xs → filter (equals before a) (sorted before xs) ≡ filter (equals before a) xs
  unfolding sorted
  sorted_stable [] u = refl
  sorted_stable (x ∷ xs) u =
      inserted_stable x (sorted before xs) u.0 (each_sorted before Used xs u.1)
      ∙ ap (λ (l : List ℕ). cond (equals before a x) (x ∷ l) l) (sorted_stable xs u.1)
