-- `host_bytes::answers::put_places_bytes` meets its contract. The invariant: the bytes of the first j answers stand from `at` on.
use mathlib.Core.Path.{ap, ◌∙◌}
use mathlib.Core.List.{List}
use Prim.Native.Nat.{ℕ, ◌+◌, ◌*◌}
use native.Mathlib.Omega.{arith}
use lib.Ieee.{binary32}
use Rattle.spec_tables.specs.Tables.{overwrite}
use Rattle.spec_tables.proofs.Runs.{run_start, run_more, run_end}
use Rattle.spec_search.specs.Answers.{Answer, words_of}
use Rattle.spec_host.specs.PointBytes.{word_bytes, answer_size}
use Rattle.spec_host.proofs.PointBytes.{answer_long, point_bytes}
use Rattle.walks.specs.Places.{most_of, answer_of}
use Rattle.host_bytes.proofs.answers.put_places_bytes.Goals as goal
use Rattle.host_bytes.proofs.answers.put_places_bytes.Invariants.{piece}

pub loop-j-init : goal.loop-j-init
loop-j-init c =
    let places = c.args.places.now in
    run_start (piece places.best places.which) answer_size c.args.at _ c.args.out.now

pub put_answer_bytes-requires : goal.put_answer_bytes-requires
put_answer_bytes-requires c = omega (arith, c.loop-j.invariant.long)

pub loop-j-preserved : goal.loop-j-preserved
loop-j-preserved c =
    let a = c.args in
    let places = a.places.now in
    run_more (piece places.best places.which) answer_size a.at _ a.out.now _ _ _
    (λ i. answer_long (answer_of places.best places.which i)) c.requires.room (omega arith) c.loop-j.invariant
    (c.put_answer_bytes.ensures
    ∙ ap (λ (x : Answer). overwrite (a.at + answer_size * c.loop-j.j) (word_bytes (words_of binary32 x)) c.loop-j.out) c.answer_at.ensures)

pub returns : goal.returns
returns c =
    let a = c.args in
    let places = a.places.now in
    run_end (piece places.best places.which) a.at _ a.out.now _ _ (omega arith) c.loop-j.invariant
    ∙ ap (λ (new : List ℕ). overwrite a.at new a.out.now) (point_bytes (most_of places.which) (answer_of places.best places.which))
