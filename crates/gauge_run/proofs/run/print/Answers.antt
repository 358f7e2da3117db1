-- `gauge_run::run::print` meets its contract: the input is too long, or laid out wrong, or a request.
use mathlib.Core.Path.{sym}
use Rattle.spec_tables.proofs.Tables.{put_same}
use Rattle.spec_gauge.proofs.Printed.{gauge_long, too_long, wrong_printed, right_printed}
use Rattle.gauge_run.proofs.run.print.Goals as goal

pub returns-then-input-gt32768 : goal.returns-then-input-gt32768
returns-then-input-gt32768 c = put_same (too_long c.args.input.now c.if-input-gt32768.true) c.put_refusal.ensures

pub print_sized-requires : goal.print_sized-requires
print_sized-requires c =
    record { ruled_value = (gauge_long _ _ _ _ (sym c.in-Ok.ensures), c.if-input-gt32768.false); max_printed_in_bounds = c.requires }

pub returns-in-Ok : goal.returns-in-Ok
returns-in-Ok c = put_same (right_printed _ c.if-input-gt32768.false _ _ _ (sym c.in-Ok.ensures)) c.print_sized.ensures

pub returns-in-Err : goal.returns-in-Err
returns-in-Err c =
    put_same (wrong_printed _ c.if-input-gt32768.false _ (sym c.in-Err.ensures)) (rw c.from.ensures at c.put_refusal-in-Err.ensures)
