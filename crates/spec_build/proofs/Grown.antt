-- A grown tree has the triangles of its slice and no more levels than were left. Where the tries cut inside, no leaf of it is empty.
use mathlib.Core.Path.{◌≡◌, refl, subst}
use mathlib.Core.Bool.{Bool, true, false}
use mathlib.Core.List.Permᴰ
use mathlib.Core.List.{List, ◌++◌, Permᴰ}
use Prim.Native.Nat.{ℕ, zero, suc, ◌+◌, ◌≤◌, ◌<◌}
use native.Mathlib.Omega.{arith}
use borrow.Author.Tests.{leb-false}
use lib.Dec.{leb}
use lib.ListN.{length, take, drop, length-take, length-drop, take-append-drop}
use Rattle.spec_tree.specs.Trees.{Tree, numbers, levels, Filled}
use Rattle.spec_tables.specs.Each.{Each}
use Rattle.spec_build.specs.Grown.{Tried, cut, uncut, slice_of, CutInside, parted, grown_by, grown, Trying}
use Rattle.spec_tree.proofs.Order.{permuted_length}
use Rattle.spec_tables.proofs.Each.{each_take, each_drop, each_permuted}

both_permuted : {ws xs ys zs : List ℕ} → Permᴰ ws xs → Permᴰ ys zs → Permᴰ (ws ++ ys) (xs ++ zs)
both_permuted {xs = xs} {ys = ys} p q = Permᴰ.trans (Permᴰ.append_right ys p) (Permᴰ.append_left xs q)

-- ---- what is under a slice that was tried
module _ (below : List ℕ → Tree) where
  parted_permutes : ((slice : List ℕ) → Permᴰ (numbers (below slice)) slice) → (r : Tried) → Permᴰ (numbers (parted below r)) (slice_of r)
  unfolding numbers
  parted_permutes p (cut slice k) =
      subst (λ (l : List ℕ). Permᴰ (numbers (below (take k slice)) ++ numbers (below (drop k slice))) l) (take-append-drop k slice)
      (both_permuted (p (take k slice)) (p (drop k slice)))
  parted_permutes p (uncut slice) = Permᴰ.refl slice

  parted_levels : (most : ℕ) → ((slice : List ℕ) → levels (below slice) ≤ most) → (r : Tried) → levels (parted below r) ≤ suc most
  unfolding levels
  parted_levels most p (cut slice k) = omega (arith, p (take k slice), p (drop k slice))
  parted_levels most p (uncut slice) = omega arith

  parted_filled : (Used : ℕ → Type 0) → ((slice : List ℕ) → 0 < length slice → Each Used slice → Filled (below slice))
      → (r : Tried) → 0 < length (slice_of r) → Each Used (slice_of r) → CutInside r → Filled (parted below r)
  parted_filled Used p (cut slice k) w u i =
      let some : 0 < k = i.0 in
      let left : k < length slice = i.1 in (
        p (take k slice) (omega (arith, length-take k slice)) (each_take Used k slice u),
        p (drop k slice) (omega (arith, length-drop k slice)) (each_drop Used k slice u),
      )
  parted_filled Used p (uncut slice) w u i = w

module _ {tried : List ℕ → Tried} {Used : ℕ → Type 0} (h : Trying tried Used) (leaf_minimum : ℕ) where
  -- growing loses no triangle and repeats none
  pub grown_permutes : (remaining : ℕ) (slice : List ℕ) → Permᴰ (numbers (grown tried leaf_minimum remaining slice)) slice
  unfolding grown numbers
  grown_permutes zero slice = Permᴰ.refl slice
  grown_permutes (suc remaining) slice = at (leb (length slice) leaf_minimum) (grown_permutes remaining)
    where
      at : (b : Bool) → ((p : List ℕ) → Permᴰ (numbers (grown tried leaf_minimum remaining p)) p)
          → Permᴰ (numbers (grown_by b tried (grown tried leaf_minimum remaining) slice)) slice
      at true p = Permᴰ.refl slice
      at false p = Permᴰ.trans (parted_permutes (grown tried leaf_minimum remaining) p (tried slice)) (h.permutes slice)

  -- a tree has no more levels than the depth limit leaves
  pub grown_levels : (remaining : ℕ) (slice : List ℕ) → levels (grown tried leaf_minimum remaining slice) ≤ remaining + 1
  unfolding grown levels
  grown_levels zero slice = omega arith
  grown_levels (suc remaining) slice = at (leb (length slice) leaf_minimum) (grown_levels remaining)
    where
      at : (b : Bool) → ((p : List ℕ) → levels (grown tried leaf_minimum remaining p) ≤ remaining + 1)
          → levels (grown_by b tried (grown tried leaf_minimum remaining) slice) ≤ suc remaining + 1
      at true p = omega arith
      at false p = omega (arith, parted_levels (grown tried leaf_minimum remaining) (remaining + 1) p (tried slice))

  -- where every cut lies inside its slice, no leaf is empty
  pub grown_filled : 1 ≤ leaf_minimum → (remaining : ℕ) (slice : List ℕ) → 0 < length slice → Each Used slice
      → Filled (grown tried leaf_minimum remaining slice)
  unfolding grown
  grown_filled m zero slice w u = w
  grown_filled m (suc remaining) slice w u = at (leb (length slice) leaf_minimum) refl (grown_filled m remaining)
    where
      at : (b : Bool) → leb (length slice) leaf_minimum ≡ b → ((p : List ℕ) → 0 < length p → Each Used p → Filled (grown tried leaf_minimum remaining p))
          → Filled (grown_by b tried (grown tried leaf_minimum remaining) slice)
      at true e p = w
      at false e p =
          let more : 1 < length slice = omega (arith, leb-false (length slice) leaf_minimum e) in
          let used : Each Used (slice_of (tried slice)) = each_permuted Used (Permᴰ.symm (h.permutes slice)) u in
          parted_filled (grown tried leaf_minimum remaining) Used p (tried slice) (omega (arith, permuted_length (h.permutes slice))) used
          (h.inside slice more u)
