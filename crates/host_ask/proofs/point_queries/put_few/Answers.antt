-- `host_ask::point_queries::put_few` meets its contract. The invariant: the answers to the first k points stand at the front of the bytes.
use mathlib.Core.Path.{◌≡◌, refl, ap, ◌∙◌}
use Prim.Native.Nat.{ℕ}
use native.Mathlib.Omega.{arith}
use lib.Ieee.{binary32}
use mathlib.Core.List.{List}
use lib.Ieee.{Float}
use Rattle.spec_lists.proofs.Reading.{point_finite}
use Rattle.spec_search.specs.Answers.{Answer}
use Rattle.spec_search.specs.Rules.{rule_of}
use Rattle.spec_search.specs.Calls.{point_words, few_answer}
use Rattle.spec_search.proofs.Calls.{point_words_same}
use Rattle.spec_host.specs.PointBytes.{numbers_of}
use Rattle.spec_host.proofs.PointBytes.{numbers_long, answered_start, answered_more, answered_end}
use Rattle.walks.specs.Places as Places
use Rattle.walks.specs.Places.{most_of, answer_of}
use Rattle.host_ask.proofs.point_queries.put_few.Goals as goal

-- the words of all places that hold these answers
held_words : {best : List Float} {which : List ℕ} {most : ℕ} {answer : ℕ → Answer} → Places.Answered best which most answer
    → point_words binary32 (most_of which) (answer_of best which) ≡ point_words binary32 most answer
held_words {best} {which} {most} {answer} h =
    ap (λ (n : ℕ). point_words binary32 n (answer_of best which)) h.most_is ∙ point_words_same binary32 most (answer_of best which) answer h.answers_are

pub loop-k-init : goal.loop-k-init
loop-k-init c =
    let a = c.args in
    answered_start a.most (few_answer binary32 (rule_of a.rule) a.most a.drawing.now.triangles.now a.distance) a.points.now
    a.answers.now _

pub few_at-requires-clause-finite : goal.few_at-requires-clause-finite
few_at-requires-clause-finite c =
    rw c.point_in-touched.ensures (point_finite (numbers_of c.args.points.now) c.requires.good_points.coordinates _
    (rw (numbers_long c.args.points.now) (omega arith)))

pub loop-k-preserved : goal.loop-k-preserved
loop-k-preserved c =
    let a = c.args in
    let answer = few_answer binary32 (rule_of a.rule) a.most a.drawing.now.triangles.now a.distance in
    let held = c.few_at.ensures in
    answered_more a.most answer a.points.now a.answers.now _ _ _ _ _ c.requires.points_in_bounds (omega arith) c.loop-k.invariant
    (held_words held ∙ ap (λ p. point_words binary32 a.most (answer p)) c.point_in-touched.ensures) c.put_places_bytes.ensures

pub returns : goal.returns
returns c =
    let a = c.args in
    answered_end a.most (few_answer binary32 (rule_of a.rule) a.most a.drawing.now.triangles.now a.distance) a.points.now a.answers.now _ _ _ refl
    (omega arith) c.loop-k.invariant
