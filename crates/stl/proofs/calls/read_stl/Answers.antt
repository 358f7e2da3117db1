-- `stl::calls::read_stl` meets its contract: the tests, then the triangles.
use mathlib.Core.Path.{sym}
use native.Mathlib.Omega.{arith}
use Rattle.spec_stl.specs.Calls.{triangles_after}
use Rattle.spec_stl.proofs.Kept.{read_passed}
use Rattle.lists.proofs.Rows.{handed}
use Rattle.stl.proofs.calls.read_stl.Goals as goal

pub returns-in_err-read_refusal : goal.returns-in_err-read_refusal
unfolding triangles_after
returns-in_err-read_refusal c =
    let e = c.in_err-read_refusal.ensures in
    rw (handed _ _ c.from_residual.ensures.1) (record { answer = rw (← e); triangles = rw (← e) })

pub of-facets-requires : goal.of-facets-requires
of-facets-requires c = omega (arith, (read_passed _ _ (sym c.in_ok-read_refusal.ensures)).size)

pub read-requires : goal.read-requires
read-requires c =
    rw (c.of-facets.result.count_is, c.of-facets.ensures) (read_passed _ _ (sym c.in_ok-read_refusal.ensures)).fits

pub returns : goal.returns
unfolding triangles_after
returns c =
    let e = c.in_ok-read_refusal.ensures in
    record {
      answer = rw (← e, c.of-facets.result.count_is, c.of-facets.ensures);
      triangles = rw (← e) (rw c.of-facets.ensures at c.read.ensures);
    }
