-- `walks::places::Places::start` meets its contract. The invariant: the slots that were passed are markers.
use mathlib.Core.Path.{◌≡◌}
use Prim.Native.Nat.{ℕ, ◌<◌}
use Rattle.spec_search.specs.Marked.{marker}
use Rattle.walks.specs.Values.{as_hit}
use Rattle.walks.specs.Places.{most_of, slot_at, Lent}
use Rattle.walks.proofs.places.Places.start.Given as goal

abbrev pub invariant-loop-j : goal.invariant-loop-j
invariant-loop-j l = record {
  lent : Lent l.self.best l.self.which;
  most_is : most_of l.self.which ≡ l.most;
  marker_is : as_hit l.marker ≡ marker l.squared;
  marked : (i : ℕ) → i < l.j → slot_at l.self.best l.self.which i ≡ marker l.squared;
}
