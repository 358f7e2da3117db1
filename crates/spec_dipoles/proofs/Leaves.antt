-- The loop over the triangles of a leaf, turn by turn: before turn i the slice without its first i remains to be summed.
use mathlib.Core.Path.{◌≡◌}
use mathlib.Core.List.{List, foldl}
use Prim.Native.Nat.{ℕ, ◌+◌, ◌≤◌, ◌<◌}
use native.Mathlib.Numerals.{add-one}
use lib.ListN.{length, get_or, drop, drop_of_length-le}
use lib.Seq.{drop-cons}
use lib.Ieee.{Format}
use Rattle.spec_shapes.specs.Triangles.{Triangle}
use Rattle.spec_dipoles.specs.Sums.{Sums, no_sums, with_next, leaf_sums}

-- the sums, with the rest of the slice summed into them, are those of the whole leaf
pub record Summing (f : Format) (triangle : ℕ → Triangle) (slice : List ℕ) (s : Sums) (i : ℕ) : Type 0 where
  pub completes : foldl (with_next f triangle) s (drop i slice) ≡ leaf_sums f triangle slice

module _ (f : Format) (triangle : ℕ → Triangle) (slice : List ℕ) where
  -- start: no triangle is summed yet
  pub summing_starts : (s : Sums) → s ≡ no_sums → Summing f triangle slice s 0
  unfolding leaf_sums
  summing_starts s p = record { completes = rw p }

  -- turn: the next triangle is summed, and one fewer remains
  pub summing_goes_on : (i : ℕ) (s next : Sums) → i < length slice → next ≡ with_next f triangle s (get_or slice i 0) → Summing f triangle slice s i
      → Summing f triangle slice next (i + 1)
  summing_goes_on i s next h p q = record { completes = rw (p, add-one i) (rw (drop-cons slice i 0 h) at q.completes) }

  -- end: nothing remains, so what was summed is the whole leaf
  pub summing_ends : (i : ℕ) (s : Sums) → length slice ≤ i → Summing f triangle slice s i → s ≡ leaf_sums f triangle slice
  summing_ends i s h q = rw (drop_of_length-le slice h) at q.completes
