-- `printing::lines::put_byte` meets its contract: one store.
use native.Mathlib.Omega.{arith}
use Rattle.spec_tables.proofs.Tables.{put_store}
use Rattle.printing.proofs.lines.put_byte.Goals as goal

pub returns-clause-put : goal.returns-clause-put
returns-clause-put c = put_store c.args.at c.args.byte c.args.out.now (omega arith)
