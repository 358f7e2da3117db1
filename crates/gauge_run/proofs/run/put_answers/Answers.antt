-- `gauge_run::run::put_answers` meets its contract: no query is refused, and the lines are those of its answers.
use Prim.Native.Nat.{◌*◌}
use native.Mathlib.Omega.{arith}
use Rattle.spec_tables.proofs.Tables.{put_same}
use Rattle.spec_search.specs.Answers.{sure, answer_width}
use Rattle.spec_search.proofs.Calls.{query_passed}
use Rattle.spec_gauge.specs.Printed.{max_points}
use Rattle.spec_gauge.proofs.Lines.{sure_lines}
use Rattle.spec_gauge.proofs.Runs.{is_answered}
use Rattle.gauge_run.proofs.run.put_answers.Goals as goal

pub put_answer_lines-requires : goal.put_answer_lines-requires
put_answer_lines-requires c =
    let request = c.args.request.now in
    let d = c.args.drawing.now in
    let p = query_passed (sure request.rule) d.triangles.now d.order.now d.links.now d.boxes.now d.nodes request.points.now
    request.distance (answer_width * max_points) c.requires.max_points_value in
    (omega (arith, p.1), omega arith)

pub returns : goal.returns
returns c =
    let asked = c.sure_query.ensures in
    put_same
    (sure_lines _ _ _ _ _ _ (is_answered c.args.request.now.rule _ _ _ _ _ _ _ asked.verdict c.requires.max_points_value asked.answers))
    (rw c.point_count.ensures at c.put_answer_lines.ensures)
