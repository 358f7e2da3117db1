-- `test_words::fill` meets its contract. The invariant: the first i stand in the list.
use mathlib.Core.List.{[], ◌∷◌}
use Prim.Native.Nat.{◌*◌}
use lib.ListN.{length}
use Rattle.spec_tables.proofs.Runs.{Run}
use Rattle.test_words.specs.Words.{word_at, more}
use Rattle.test_words.proofs.fill.Given as goal

abbrev pub invariant-loop-i : goal.invariant-loop-i
invariant-loop-i g l = Run (λ j. g.T.Word.of_word (word_at l.bytes (more l.from (4 * j))) ∷ []) 0 (length l.initial.out) l.initial.out l.out l.i
