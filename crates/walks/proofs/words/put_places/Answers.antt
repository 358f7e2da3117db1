-- `walks::words::put_places` meets its contract. The invariant: the first j answers stand from `at` on.
use mathlib.Core.Path.{ap, ◌∙◌}
use Prim.Native.Nat.{◌+◌, ◌*◌}
use native.Mathlib.Omega.{arith}
use lib.Ieee.{binary32}
use Rattle.spec_tables.specs.Tables.{overwrite}
use Rattle.spec_tables.proofs.Runs.{run_start, run_more, run_end}
use Rattle.spec_search.specs.Answers.{Answer, answer_width, words_of}
use Rattle.spec_search.specs.Calls.{point_words}
use Rattle.spec_search.proofs.Calls.{answer_wide}
use Rattle.walks.specs.Places.{answer_of}
use Rattle.walks.proofs.words.put_places.Goals as goal

pub loop-j-init : goal.loop-j-init
loop-j-init c =
    let places = c.args.places.now in
    run_start (λ i. words_of binary32 (answer_of places.best places.which i)) answer_width c.args.at _ c.args.out.now

pub loop-j-preserved : goal.loop-j-preserved
loop-j-preserved c =
    let a = c.args in
    let places = a.places.now in
    run_more (λ i. words_of binary32 (answer_of places.best places.which i)) answer_width a.at _ a.out.now _ _ _
    (λ i. answer_wide binary32 (answer_of places.best places.which i)) c.requires.room (omega arith) c.loop-j.invariant
    (c.put_answer.ensures ∙ ap (λ (x : Answer). overwrite (a.at + answer_width * c.loop-j.j) (words_of binary32 x) c.loop-j.out) c.answer_at.ensures)

pub returns : goal.returns
unfolding point_words
returns c =
    let places = c.args.places.now in
    run_end (λ i. words_of binary32 (answer_of places.best places.which i)) c.args.at _ c.args.out.now _ _ (omega arith) c.loop-j.invariant
