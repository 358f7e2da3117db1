-- `queries::calls::put_few` meets its contract. The invariant: the answers to the first k points stand at the front of the list.
use mathlib.Core.Path.{◌≡◌, ap, subst, ◌∙◌}
use mathlib.Core.List.{List}
use Prim.Native.Nat.{ℕ, ◌*◌, ◌<◌}
use native.Mathlib.Omega.{arith}
use lib.Ieee.{Float, binary32}
use Rattle.spec_tables.specs.Tables.{overwrite}
use Rattle.spec_lists.specs.Reading.{point_count}
use Rattle.spec_lists.proofs.Reading.{point_inside, point_finite}
use Rattle.spec_search.specs.Answers.{answer_width}
use Rattle.spec_search.specs.Rules.{rule_of}
use Rattle.spec_search.specs.Calls.{point_words, few_answer}
use Rattle.spec_search.proofs.Calls.{point_words_same, answered_start, answered_more, answered_end}
use Rattle.walks.specs.Places.{answer_of}
use Rattle.queries.proofs.calls.put_few.Goals as goal

as_many : (out : List ℕ) (at : ℕ) (best : List Float) (which : List ℕ) {new : List ℕ} {m n : ℕ} → m ≡ n
    → new ≡ overwrite at (point_words binary32 m (answer_of best which)) out → new ≡ overwrite at (point_words binary32 n (answer_of best which)) out
as_many out at best which {new} e = subst (λ (n : ℕ). new ≡ overwrite at (point_words binary32 n (answer_of best which)) out) e

pub loop-k-init : goal.loop-k-init
loop-k-init c =
    let a = c.args in
    answered_start binary32 a.most (few_answer binary32 (rule_of a.rule) a.most a.drawing.now.triangles.now a.distance) a.points.now
    a.answers.now _

pub few_at-requires-clause-finite : goal.few_at-requires-clause-finite
few_at-requires-clause-finite c =
    let here : c.loop-k.k < point_count c.args.points.now = omega arith in
    rw c.point_at-touched.ensures (point_finite _ c.requires.askable.points_good.coordinates _ (omega (arith, point_inside _ _ here)))

pub loop-k-preserved : goal.loop-k-preserved
loop-k-preserved c =
    let a = c.args in
    let answer = few_answer binary32 (rule_of a.rule) a.most a.drawing.now.triangles.now a.distance in
    let held = c.few_at.ensures in
    answered_more binary32 a.most answer a.points.now a.answers.now _ _ _ _ _
    (rw (← c.point_count-count.ensures) at c.requires.points_in_bounds) (omega arith) c.loop-k.invariant
    (point_words_same binary32 a.most _ _ held.answers_are ∙ ap (λ p. point_words binary32 a.most (answer p)) c.point_at-touched.ensures)
    (as_many c.loop-k.answers ((answer_width * a.most) * c.loop-k.k) _ _ held.most_is c.put_places.ensures)

pub returns : goal.returns
returns c =
    let a = c.args in
    answered_end binary32 a.most (few_answer binary32 (rule_of a.rule) a.most a.drawing.now.triangles.now a.distance) a.points.now a.answers.now _ _ _
    c.point_count-count.ensures (omega arith) c.loop-k.invariant
