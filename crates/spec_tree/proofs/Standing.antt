-- A list that stands in another from a place on, and slices of a list that meet: how a subtree's listing stands within the whole.
use mathlib.Core.Path.{◌≡◌, refl, sym, ap, subst, ◌∙◌}
use mathlib.Core.List.{List, [], ◌∷◌, ◌++◌}
use Prim.Native.Nat.{ℕ, suc, ◌+◌, ◌-◌, ◌≤◌, ◌<◌, suc-le-suc, zero-le}
use native.Mathlib.Omega.{arith}
use lib.ListN.{length, get_or, take, drop, take-append-drop, length-append, length-take, length-drop}
use lib.Seq.{drop-cons, take-add, drop-drop}
use Rattle.spec_tables.specs.Tables.{slice}

-- the elements of xs are those of l from s on
abbrev pub Stands : {A : Type 0} → A → List A → ℕ → List A → Type 0
Stands d l s [] = Unit {0}
Stands d l s (x ∷ xs) = (s < length l) × (get_or l s d ≡ x) × Stands d l (suc s) xs

module _ {A : Type 0} (d : A) where
  moved : (l xs : List A) (s s' : ℕ) → s ≡ s' → Stands d l s xs → Stands d l s' xs
  moved l xs s s' p h = subst (λ (k : ℕ). Stands d l k xs) p h

  -- of two lists that stand one behind the other, the first stands there
  pub stands_first : (l xs ys : List A) (s : ℕ) → Stands d l s (xs ++ ys) → Stands d l s xs
  stands_first l [] ys s h = tt
  stands_first l (x ∷ xs) ys s h = (h.0, h.1, stands_first l xs ys (suc s) h.2)

  -- of two lists that stand one behind the other, the second stands where the first ends
  pub stands_second : (l xs ys : List A) (s s' : ℕ) → s + length xs ≡ s' → Stands d l s (xs ++ ys) → Stands d l s' ys
  stands_second l [] ys s s' p h = moved l ys s s' (omega arith) h
  stands_second l (x ∷ xs) ys s s' p h = stands_second l xs ys (suc s) s' (omega arith) h.2

  stands_both : (l xs ys : List A) (s s' : ℕ) → s + length xs ≡ s' → Stands d l s xs → Stands d l s' ys → Stands d l s (xs ++ ys)
  stands_both l [] ys s s' p h k = moved l ys s' s (omega arith) k
  stands_both l (x ∷ xs) ys s s' p h k = (h.0, h.1, stands_both l xs ys (suc s) s' (omega arith) h.2 k)

  -- three pieces, as a branch has them: that of its left subtree, of its right subtree, and its own
  module _ (l xs ys zs : List A) (s s' s'' : ℕ) (p : s + length xs ≡ s') (q : s' + length ys ≡ s'') where
    over_two : s + length (xs ++ ys) ≡ s''
    over_two = omega (arith, length-append xs ys)

    -- three pieces that stand one behind the other stand as one: how the listing of a branch is put together
    pub stands_three : Stands d l s xs → Stands d l s' ys → Stands d l s'' zs → Stands d l s (xs ++ ys ++ zs)
    stands_three h k m = stands_both l (xs ++ ys) zs s s'' over_two (stands_both l xs ys s s' p h k) m

    -- three pieces that stand as one stand one behind the other: how the listing of a branch is taken apart
    pub three_stand : Stands d l s (xs ++ ys ++ zs) → Stands d l s xs × Stands d l s' ys × Stands d l s'' zs
    three_stand h =
        let two = stands_first l (xs ++ ys) zs s h in
        (stands_first l xs ys s two, stands_second l xs ys s s' p two, stands_second l (xs ++ ys) zs s s'' over_two h)

  -- a list that stands there is the slice from there on
  pub stands_slice : (l xs : List A) (s n : ℕ) → length xs ≡ n → Stands d l s xs → slice l s n ≡ xs
  stands_slice l [] s n p h = rw (← p)
  stands_slice l (x ∷ xs) s n p h =
      rw (← p, drop-cons l s d h.0) (λ i. h.1 i ∷ stands_slice l xs (suc s) (length xs) refl h.2 i)

  behind : (y : A) (l xs : List A) (s : ℕ) → Stands d l s xs → Stands d (y ∷ l) (suc s) xs
  behind y l [] s h = tt
  behind y l (x ∷ xs) s h = (suc-le-suc h.0, h.1, behind y l xs (suc s) h.2)

  stands_prefix : (xs ys : List A) → Stands d (xs ++ ys) 0 xs
  stands_prefix [] ys = tt
  stands_prefix (x ∷ xs) ys = (suc-le-suc zero-le, refl, behind x (xs ++ ys) xs 0 (stands_prefix xs ys))

  -- the front of a list, however it was computed, stands at place 0
  pub taken_stands : (l xs : List A) (n : ℕ) → take n l ≡ xs → Stands d l 0 xs
  taken_stands l xs n p =
      subst (λ (m : List A). Stands d m 0 xs) (ap (λ (k : List A). k ++ drop n l) (sym p) ∙ take-append-drop n l) (stands_prefix xs (drop n l))

-- two slices that meet are one slice
pub slice_join : {A : Type 0} (l : List A) (a b c : ℕ) → a ≤ b → b ≤ c → slice l a (b - a) ++ slice l b (c - b) ≡ slice l a (c - a)
slice_join {A} l a b c h k =
    let sizes : c - a ≡ (b - a) + (c - b) = omega arith in
    let start : a + (b - a) ≡ b = omega arith in
    sym (ap (slice l a) sizes ∙ take-add (b - a) (c - b) (drop a l)
    ∙ ap (λ (x : List A). slice l a (b - a) ++ take (c - b) x) (drop-drop (b - a) a l ∙ ap (λ (n : ℕ). drop n l) start))

-- a slice within the list has the length it was given
pub slice_length : {A : Type 0} (l : List A) (s n : ℕ) → s + n ≤ length l → length (slice l s n) ≡ n
slice_length l s n w = length-take n (drop s l) ∙ omega (arith, length-drop s l)
