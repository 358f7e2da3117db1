-- `host_ask::point_queries::put_source` meets its contract: a turn writes the answer at one point more (`Answered`).
use mathlib.Core.Path.{refl, sym, ap, ◌∙◌}
use Prim.Native.Nat.{ℕ}
use native.Mathlib.Omega.{arith}
use lib.Ieee.{binary32}
use Rattle.spec_shapes.specs.Points.{Point}
use Rattle.spec_search.specs.Answers.{words_of}
use Rattle.spec_search.specs.Calls.{source_answer}
use Rattle.spec_search.proofs.Calls.{one_place}
use Rattle.spec_host.proofs.PointBytes.{answered_start, answered_more, answered_end}
use Rattle.host_ask.proofs.point_queries.put_source.Goals as goal

pub loop-k-init : goal.loop-k-init
loop-k-init c =
    let d = c.args.drawing.now in
    answered_start 1 (λ p j. source_answer binary32 d.triangles.now d.order.now d.links.now d.boxes.now d.nodes c.args.distance p)
    c.args.points.now c.args.answers.now _

pub loop-k-preserved : goal.loop-k-preserved
loop-k-preserved c =
    let a = c.args in
    let d = a.drawing.now in
    let answer = source_answer binary32 d.triangles.now d.order.now d.links.now d.boxes.now d.nodes a.distance in
    answered_more 1 (λ (p : Point) (j : ℕ). answer p) a.points.now a.answers.now _ _ _ _ _ c.requires.points_in_bounds (omega arith)
    c.loop-k.invariant
    (ap (words_of binary32) (c.source_at.ensures ∙ ap answer c.point_in-touched.ensures) ∙ sym (one_place binary32 (λ j. answer _)))
    c.put_answer_bytes.ensures

pub returns : goal.returns
returns c =
    let d = c.args.drawing.now in
    answered_end 1 (λ p j. source_answer binary32 d.triangles.now d.order.now d.links.now d.boxes.now d.nodes c.args.distance p)
    c.args.points.now c.args.answers.now _ _ _ refl (omega arith) c.loop-k.invariant
