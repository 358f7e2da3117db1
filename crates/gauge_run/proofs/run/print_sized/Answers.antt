-- `gauge_run::run::print_sized` meets its contract: the lists that are read are those that the records hold.
use mathlib.Core.Path.{ap}
use native.Mathlib.Omega.{arith}
use lib.Seq.{length-take-le}
use Rattle.spec_tables.proofs.Tables.{put_same}
use Rattle.spec_gauge.specs.Printed.{printed_run}
use Rattle.spec_gauge.proofs.Runs.{fits, request_is}
use Rattle.gauge_run.proofs.run.print_sized.Goals as goal

pub print_request-requires : goal.print_request-requires
print_request-requires c =
    let n = c.args.counts in
    fits n.triangles n.points _ _ _
    (length-take-le _ _ (omega arith))
    (length-take-le _ _ (omega arith))
    (omega arith) c.requires.max_printed_in_bounds

pub returns : goal.returns
returns c =
    let n = c.args.counts in
    put_same
    (ap printed_run (request_is c.args.input.now n.triangles n.points n.ruled _ _ _ _ _ _ _
    c.settings_of.ensures c.read_f32s.ensures c.read_f32s-2.ensures c.f32_at.ensures c.rule_of.ensures))
    c.print_request.ensures
