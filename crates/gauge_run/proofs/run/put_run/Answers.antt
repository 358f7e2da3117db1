-- `gauge_run::run::put_run` meets its contract: what passed the tests is built, and the tree passes the tree check.
use mathlib.Core.Path.{refl}
use native.Mathlib.Omega.{arith}
use Rattle.spec_tables.proofs.Tables.{put_same, put_then, put_long}
use Rattle.spec_gauge.proofs.Printed.{all_passed}
use Rattle.spec_gauge.proofs.Runs.{is_built, tree_line_lem, query_passes}
use Rattle.gauge_run.specs.Values.{as_request}
use Rattle.gauge_run.proofs.run.put_run.Goals as goal

pub returns-in_default : goal.returns-in_default
returns-in_default c =
    let request = as_request c.args.request.now in
    absurd (is_built request (all_passed request c.requires.rule_value) c.requires.fits.triangles_few
    (record { order = refl; links = refl; boxes = refl; bounds = refl; centres = refl; scratch = refl })
    c.in_default.ensures)

pub put_answers-requires : goal.put_answers-requires
put_answers-requires c =
    let request = as_request c.args.request.now in record {
      max_points_value = query_passes request (all_passed request c.requires.rule_value) c.in-Ok.ensures _
          c.triangle_count-count.ensures c.requires.fits.points_few;
      points_in_bounds = omega (arith, put_long c.put_counts-next.ensures.put);
    }

pub returns : goal.returns
returns c =
    let request = as_request c.args.request.now in
    put_then
    (put_same
    (tree_line_lem request (all_passed request c.requires.rule_value) c.in-Ok.ensures _ c.triangle_count-count.ensures)
    c.put_counts-next.ensures.put)
    c.put_answers.ensures
