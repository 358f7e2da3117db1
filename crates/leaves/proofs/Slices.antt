-- A slice that runs past the end of its list is what of it is there.
use mathlib.Core.Path.{◌≡◌, sym, ap, ◌∙◌}
use mathlib.Core.List.{List, []}
use Prim.Native.Nat.{ℕ, min, ◌-◌, ◌≤◌, ◌<◌}
use native.Mathlib.Omega.{arith}
use native.Mathlib.Decide.{dec_lt}
use lib.ListN.{length, take, drop, length-drop, drop_of_length-le}
use lib.Seq.{take_all, take-nil}
use Rattle.spec_tables.specs.Tables.{slice}

module _ {A : Type 0} (l : List A) (first last : ℕ) where
  within : first ≤ min last (length l) → take (min last (length l) - first) (drop first l) ≡ slice l first (last - first)
  within h = at (dec_lt (length l) last)
    where
      at : Dec (length l < last) → take (min last (length l) - first) (drop first l) ≡ slice l first (last - first)
      at (yes p) =
          take_all (min last (length l) - first) (drop first l) (omega (arith, length-drop first l))
          ∙ sym (take_all (last - first) (drop first l) (omega (arith, length-drop first l)))
      at (no p) = let end : min last (length l) ≡ last = omega arith in rw end

  behind : min last (length l) < first → [] ≡ slice l first (last - first)
  behind h = at (dec_lt (length l) last)
    where
      at : Dec (length l < last) → [] ≡ slice l first (last - first)
      at (yes p) = let none : drop first l ≡ [] = drop_of_length-le l {i = first} (omega arith) in sym (ap (take (last - first)) none ∙ take-nil (last - first))
      at (no p) = let none : last - first ≡ 0 = omega arith in rw none

  -- the two bounds that the code cuts off give the slice that the definition speaks of
  pub slice_there : (start end : ℕ) → end ≡ min last (length l) → start ≡ min first end → take (end - start) (drop start l) ≡ slice l first (last - first)
  slice_there start end p q = at (dec_lt end first)
    where
      at : Dec (end < first) → take (end - start) (drop start l) ≡ slice l first (last - first)
      at (yes h) = let none : end - start ≡ 0 = omega arith in rw none (behind (omega arith))
      at (no h) = let same : start ≡ first = omega arith in rw (same, p) (within (omega arith))
