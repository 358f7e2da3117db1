-- `gauge_run::run::print_request` meets its contract: the line of a refusal, or the run.
use mathlib.Core.Path.{sym}
use Rattle.spec_tables.proofs.Tables.{put_same}
use Rattle.spec_gauge.proofs.Printed.{refused_printed, passed_printed}
use Rattle.gauge_run.proofs.run.print_request.Goals as goal

pub put_run-requires : goal.put_run-requires
put_run-requires c = record { rule_value = sym c.in-Ok.ensures; fits = c.requires }

pub returns-in-Ok : goal.returns-in-Ok
returns-in-Ok c = put_same (passed_printed _ (sym c.in-Ok.ensures)) c.put_run.ensures

pub returns-in-Err : goal.returns-in-Err
returns-in-Err c = put_same (refused_printed _ _ _ (sym c.in-Err.ensures)) c.put_refusal.ensures
