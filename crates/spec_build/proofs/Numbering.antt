-- Elements stored one behind the other: the numbers from 0 on are the order that a tree is grown from, one value n times clears a working list.
use mathlib.Core.Path.{◌≡◌, refl, ap, ◌∙◌}
use mathlib.Core.List.{List, [], ◌∷◌, ◌++◌}
use Prim.Native.Nat.{ℕ, zero, suc}
use native.Mathlib.Numerals.{add-one}
use lib.ListN.{replicate, replicate-append-replicate}
use Rattle.spec_tables.specs.Tables.{concat_map}
use Rattle.spec_tree.specs.Order.{range}

-- the loop that stores 0, 1, 2 and so on leaves the order that the definition begins with
pub range_concat_map : (n : ℕ) → concat_map (λ t. t ∷ []) n ≡ range n
unfolding concat_map range
range_concat_map zero = refl
range_concat_map (suc n) = ap (λ (l : List ℕ). l ++ (n ∷ [])) (range_concat_map n)

-- the loop that stores one value leaves that value as often as it turned
pub replicate_concat_map : {A : Type 0} (x : A) (n : ℕ) → concat_map (λ t. x ∷ []) n ≡ replicate n x
unfolding concat_map
replicate_concat_map x zero = refl
replicate_concat_map {A} x (suc n) =
    ap (λ (l : List A). l ++ (x ∷ [])) (replicate_concat_map x n) ∙ replicate-append-replicate n 1 x ∙ ap (λ (k : ℕ). replicate k x) (add-one n)
