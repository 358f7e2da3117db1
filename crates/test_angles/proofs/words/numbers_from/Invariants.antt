-- `test_angles::words::numbers_from` meets its contract. The invariant: the first i numbers stand in the array.
use Rattle.std.proofs.Common.{[], ◌∷◌}
use Rattle.spec_tables.proofs.Runs.{Run}
use Rattle.test_angles.specs.Words.{number_at, place}
use Rattle.test_angles.proofs.words.numbers_from.Given as goal

abbrev pub invariant-loop-i : goal.invariant-loop-i
invariant-loop-i l = Run (λ j. number_at l.block (place l.at 1 j) ∷ []) 0 720 l.initial.entry-items l.entry-items l.i
