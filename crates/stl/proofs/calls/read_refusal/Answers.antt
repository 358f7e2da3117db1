-- `stl::calls::read_refusal` meets its contract: the size, and for bytes of the right size the triangles in them and the room.
use mathlib.Core.Path.{sym}
use native.Mathlib.Omega.{arith}
use Rattle.spec_stl.specs.Calls.{read_refusal}
use Rattle.spec_stl.proofs.Refused.{size_passed}
use Rattle.lists.proofs.Rows.{handed_on, refused_first, passed_first, last}
use Rattle.stl.proofs.calls.read_refusal.Goals as goal

pub returns-in_err-size_refusal : goal.returns-in_err-size_refusal
unfolding read_refusal
returns-in_err-size_refusal c =
    handed_on _ _ _ c.from_residual.ensures.1 (refused_first _ _ _ _ c.in_err-size_refusal.ensures)

pub of-facets-requires : goal.of-facets-requires
of-facets-requires c = omega (arith, size_passed _ (sym c.in_ok-size_refusal.ensures))

pub returns-in_err-corners_refusal : goal.returns-in_err-corners_refusal
unfolding read_refusal
returns-in_err-corners_refusal c =
    handed_on _ _ _ c.from_residual-in_err-corners_refusal.ensures.1
    (passed_first _ _ _ c.in_ok-size_refusal.ensures
    (refused_first _ _ _ _ (rw c.of-facets.ensures at c.in_err-corners_refusal.ensures)))

pub returns : goal.returns
unfolding read_refusal
returns c =
    let facets = c.of-facets in
    passed_first _ _ _ c.in_ok-size_refusal.ensures
    (passed_first _ _ _ (rw facets.ensures at c.in_ok-corners_refusal.ensures)
    (last _ _ (rw (facets.result.count_is, facets.ensures) at c.room_refusal.ensures)))
