-- The boxes of a slice of the order list: at an index, in its two halves, and what the table has of them.
use mathlib.Core.Path.{◌≡◌, refl, ap}
use mathlib.Core.List.{List, [], ◌∷◌, map, foldl}
use Prim.Native.Nat.{ℕ, zero, suc, ◌+◌, ◌-◌, ◌*◌, ◌<◌, ◌≤◌}
use native.Mathlib.Nat.{add-zero}
use native.Mathlib.Omega.{arith}
use lib.ListN.{length, get_or, take, drop, set, length-take, length-drop}
use lib.Seq.{get_or-take, get_or-drop, take_all}
use lib.Ieee.{Float, Format, nan, add, div}
use Rattle.spec_numbers.specs.Values.{two}
use Rattle.spec_numbers.specs.Axes.{Axis, X, Y, Z}
use Rattle.spec_shapes.specs.Points.{on, plus, divided_by}
use Rattle.spec_shapes.specs.Boxes.{Box, union, centre}
use Rattle.spec_splits.specs.Splits.{box_in, place, AllInTable, union_of}

module _ {A B : Type 0} (g : A → B) where
  -- the boxes of the first n triangles are the first n of the boxes: the left half of a cut
  pub map_take : (n : ℕ) (l : List A) → map g (take n l) ≡ take n (map g l)
  map_take zero l = refl
  map_take (suc n) [] = refl
  map_take (suc n) (a ∷ l) = ap (λ (m : List B). g a ∷ m) (map_take n l)

  -- the boxes of the triangles behind the first n are the boxes behind the first n: the right half of a cut
  pub map_drop : (n : ℕ) (l : List A) → map g (drop n l) ≡ drop n (map g l)
  map_drop zero l = refl
  map_drop (suc n) [] = refl
  map_drop (suc n) (a ∷ l) = map_drop n l

  -- what the stored entries stand for changes at the one index that is stored to
  pub map_set : (l : List A) (k : ℕ) (v : A) → map g (set l k v) ≡ set (map g l) k (g v)
  map_set [] k v = refl
  map_set (a ∷ l) zero v = refl
  map_set (a ∷ l) (suc k) v = ap (λ (m : List B). g a ∷ m) (map_set l k v)

  -- an element in range is the same whatever stands for those that are not
  pub at_map : (l : List A) (n : ℕ) (a : A) (b : B) → n < length l → get_or (map g l) n b ≡ g (get_or l n a)
  at_map [] n a b h = absurd (omega arith)
  at_map (x ∷ l) zero a b h = refl
  at_map (x ∷ l) (suc n) a b h = at_map l n a b (omega arith)

-- a slice that goes to the end is all that remains from its start
pub to_the_end : {A : Type 0} (n : ℕ) (l : List A) → take (length l - n) (drop n l) ≡ drop n l
to_the_end n l = take_all (length l - n) (drop n l) (rw (length-drop n l) (omega arith))

module _ (bounds : List Float) (slice : List ℕ) (all : AllInTable bounds slice) (n : ℕ) where
  -- the first n triangles of a slice have their boxes in the table, where the slice has
  pub in_table_before : n ≤ length slice → AllInTable bounds (take n slice)
  in_table_before h i k =
      let j : i < n = omega (arith, length-take n slice) in
      rw (get_or-take n slice i 0 j) (all i (omega arith))

  -- so have the triangles that remain behind them
  pub in_table_after : AllInTable bounds (drop n slice)
  in_table_after i k = rw (get_or-drop n slice i 0) (all (n + i) (omega (arith, length-drop n slice)))

-- the union of the boxes of a slice begins with its first: the loop starts there
pub union_from_first : (f : Format) (g : ℕ → Box) (slice : List ℕ) → 0 < length slice
    → foldl union (g (get_or slice 0 0)) (map g (drop 1 slice)) ≡ union_of f (map g slice)
unfolding union_of
union_from_first f g [] h = absurd (omega arith)
union_from_first f g (t ∷ slice) h = refl

-- ---- the centre of a box of the table, on one axis
-- an axis has its place among a point's three numbers
pub place_below : (axis : Axis) → place axis < 3
place_below X = omega arith
place_below Y = omega arith
place_below Z = omega arith

module _ (f : Format) (bounds : List Float) where
  -- the centre on one axis from two numbers of the table, as code works it out
  pub centre_in : (t : ℕ) (axis : Axis)
      → div f (add f (get_or bounds (6 * t + place axis) nan) (get_or bounds (6 * t + place axis + 3) nan)) two ≡ on axis (centre f (box_in bounds t))
  unfolding centre box_in plus divided_by
  centre_in t X = ap (λ (k : ℕ). div f (add f (get_or bounds k nan) (get_or bounds (k + 3) nan)) two) (add-zero (6 * t))
  centre_in t Y = ap (λ (k : ℕ). div f (add f (get_or bounds (6 * t + 1) nan) (get_or bounds k nan)) two) (omega arith)
  centre_in t Z = ap (λ (k : ℕ). div f (add f (get_or bounds (6 * t + 2) nan) (get_or bounds k nan)) two) (omega arith)
