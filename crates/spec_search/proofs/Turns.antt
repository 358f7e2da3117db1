-- A loop that measures a list of triangles from the front: what remains, from what is kept now, gives what the whole list gives.
use mathlib.Core.Path.{◌≡◌, sym, ap, ◌∙◌}
use mathlib.Core.List.{List}
use Prim.Native.Nat.{ℕ, ◌+◌, ◌≤◌, ◌<◌}
use native.Mathlib.Numerals.{add-one}
use native.Mathlib.Nat.{le_antisymm}
use lib.ListN.{length, drop, get_or}
use lib.Seq.{drop-cons, drop-length}
use Rattle.spec_search.specs.Walk.{Sought, took_one, took_all}

module _ {S : Type 0} (took : ℕ → S → S) (slice : List ℕ) where
  -- turn: the next triangle is measured, and one fewer remains
  pub one_more : (i : ℕ) (now next start : Sought S) → i < length slice → next ≡ took_one took (get_or slice i 0) now
      → took_all took (drop i slice) now ≡ took_all took slice start → took_all took (drop (i + 1) slice) next ≡ took_all took slice start
  unfolding took_all
  one_more i now next start h e inv =
      rw (add-one, e) (sym (ap (λ (l : List ℕ). took_all took l now) (drop-cons slice i 0 h)) ∙ inv)

  -- end: nothing remains, so what is kept is what the whole list gives
  pub none_remaining : (i : ℕ) (now start : Sought S) → i ≤ length slice → length slice ≤ i
      → took_all took (drop i slice) now ≡ took_all took slice start → now ≡ took_all took slice start
  unfolding took_all
  none_remaining i now start h k inv =
      sym (ap (λ (n : ℕ). took_all took (drop n slice) now) (le_antisymm h k) ∙ ap (λ (l : List ℕ). took_all took l now) (drop-length slice)) ∙ inv
