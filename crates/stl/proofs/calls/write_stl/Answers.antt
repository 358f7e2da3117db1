-- `stl::calls::write_stl` meets its contract: the tests, then the STL.
use mathlib.Core.Path.{sym}
use Rattle.spec_stl.specs.Calls.{bytes_after}
use Rattle.spec_stl.proofs.Kept.{write_passed}
use Rattle.lists.proofs.Rows.{handed}
use Rattle.stl.proofs.calls.write_stl.Goals as goal

pub returns-in_err-write_refusal : goal.returns-in_err-write_refusal
unfolding bytes_after
returns-in_err-write_refusal c =
    let e = c.in_err-write_refusal.ensures in
    rw (handed _ _ c.from_residual.ensures.1) (record { answer = rw (← e); bytes = rw (← e) })

pub put_stl-requires : goal.put_stl-requires
put_stl-requires c = (write_passed _ _ (sym c.in_ok-write_refusal.ensures)).fits

pub returns : goal.returns
unfolding bytes_after
returns c =
    let e = c.in_ok-write_refusal.ensures in
    record { answer = rw (← e, c.put_stl.ensures.value); bytes = rw (← e) c.put_stl.ensures.put.written }
