-- A loop that joins boxes, turn by turn: before turn i the list without its first i remains to be joined.
use mathlib.Core.Path.{◌≡◌}
use mathlib.Core.List.{List, [], ◌∷◌}
use Prim.Native.Nat.{ℕ, ◌+◌, ◌≤◌, ◌<◌}
use native.Mathlib.Numerals.{add-one}
use native.Mathlib.Omega.{arith}
use lib.ListN.{length, get_or, drop, drop_of_length-le}
use lib.Seq.{drop-cons}
use Rattle.spec_shapes.specs.Boxes.{Box, union}
use Rattle.spec_tree.specs.Trees.{joined_to, joined}

module _ (box_at : ℕ → Box) (slice : List ℕ) where
  -- start: the first triangle's box, with the rest of the list remaining, joins to the box of the whole list
  pub joining_starts : (b : Box) → 0 < length slice → b ≡ box_at (get_or slice 0 0) → joined_to box_at b (drop 1 slice) ≡ joined box_at slice
  unfolding joined
  joining_starts b h p = at slice h p
    where
      at : (l : List ℕ) → 0 < length l → b ≡ box_at (get_or l 0 0) → joined_to box_at b (drop 1 l) ≡ joined box_at l
      at [] h p = absurd (omega arith)
      at (k ∷ ks) h p = rw p

  -- turn: the box of entry i is joined, and one entry fewer remains
  pub joining_goes_on : (i : ℕ) (b c : Box) → i < length slice → c ≡ union b (box_at (get_or slice i 0)) → joined_to box_at b (drop i slice)
      ≡ joined box_at slice
      → joined_to box_at c (drop (i + 1) slice) ≡ joined box_at slice
  unfolding joined_to
  joining_goes_on i b c h p q = rw (p, add-one i) (rw (drop-cons slice i 0 h) at q)

  -- end: nothing remains, so what was joined is the box of the whole list
  pub joining_ends : (i : ℕ) (b : Box) → length slice ≤ i → joined_to box_at b (drop i slice) ≡ joined box_at slice → b ≡ joined box_at slice
  unfolding joined_to
  joining_ends i b h q = rw (drop_of_length-le slice h) at q
