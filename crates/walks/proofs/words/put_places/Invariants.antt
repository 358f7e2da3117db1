-- `walks::words::put_places` meets its contract. The invariant: the first j answers stand from `at` on.
use lib.Ieee.{binary32}
use Rattle.spec_tables.proofs.Runs.{Run}
use Rattle.spec_search.specs.Answers.{words_of}
use Rattle.walks.specs.Places.{answer_of}
use Rattle.walks.proofs.words.put_places.Given as goal

abbrev pub invariant-loop-j : goal.invariant-loop-j
invariant-loop-j l = Run (λ i. words_of binary32 (answer_of l.places.best l.places.which i)) l.at l.most l.initial.out l.out l.j
