-- `stl::calls::write_refusal` meets its contract: the tests of the triangles, then that of the room.
-- Triangles that passed are few enough that the size of their STL does not overflow.
use mathlib.Core.Path.{sym}
use native.Mathlib.Omega.{arith}
use Rattle.spec_lists.proofs.Passed.{triangles_passed}
use Rattle.spec_stl.specs.Calls.{write_refusal}
use Rattle.lists.proofs.Rows.{handed_on, refused_first, passed_first, last}
use Rattle.stl.proofs.calls.write_refusal.Goals as goal

pub returns-in_err-triangles_refusal : goal.returns-in_err-triangles_refusal
unfolding write_refusal
returns-in_err-triangles_refusal c =
    handed_on _ _ _ c.from_residual.ensures.1 (refused_first _ _ _ _ c.in_err-triangles_refusal.ensures)

pub overflow_mul-triangle_count : goal.overflow_mul-triangle_count
overflow_mul-triangle_count c =
    omega (arith, c.triangle_count.ensures, (triangles_passed _ (sym c.in_ok-triangles_refusal.ensures)).few)

pub overflow_add-triangle_count : goal.overflow_add-triangle_count
overflow_add-triangle_count c =
    omega (arith, c.triangle_count.ensures, (triangles_passed _ (sym c.in_ok-triangles_refusal.ensures)).few)

pub returns : goal.returns
unfolding write_refusal
returns c =
    passed_first _ _ _ c.in_ok-triangles_refusal.ensures (last _ _ (rw c.triangle_count.ensures at c.room_refusal.ensures))
