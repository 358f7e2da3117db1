-- `host_bytes::answers::put_places_bytes` meets its contract. The invariant: the bytes of the first j answers stand from `at` on.
use mathlib.Core.List.{List}
use Prim.Native.Nat.{ℕ}
use lib.Ieee.{Float, binary32}
use Rattle.spec_tables.proofs.Runs.{Run}
use Rattle.spec_search.specs.Answers.{words_of}
use Rattle.spec_host.specs.PointBytes.{word_bytes}
use Rattle.walks.specs.Places.{answer_of}
use Rattle.host_bytes.proofs.answers.put_places_bytes.Given as goal

abbrev pub piece : List Float → List ℕ → ℕ → List ℕ
piece best which i = word_bytes (words_of binary32 (answer_of best which i))

abbrev pub invariant-loop-j : goal.invariant-loop-j
invariant-loop-j l = Run (piece l.places.best l.places.which) l.at l.most l.initial.out l.out l.j
