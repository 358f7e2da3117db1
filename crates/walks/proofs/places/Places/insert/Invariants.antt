-- `walks::places::Places::insert` meets its contract. The invariant: those that the hit goes before, from the last place on, are moved up by one,
-- and the hit put among the others is what the whole gives.
use Rattle.walks.specs.Values.{as_hit}
use Rattle.walks.proofs.Slots.{Moving}
use Rattle.walks.proofs.places.Places.insert.Given as goal

abbrev pub invariant-loop-j : goal.invariant-loop-j
invariant-loop-j l = Moving (as_hit l.hit) l.initial.self.best l.initial.self.which l.self.best l.self.which l.j
