-- `build::tests::build_refusal` meets its contract: two tests and then, for triangles that passed, the room.
use mathlib.Core.Path.{sym}
use native.Mathlib.Omega.{arith}
use Rattle.lists.proofs.Rows.{handed_on, refused_first, passed_first}
use Rattle.spec_lists.proofs.Passed.{triangles_passed}
use Rattle.spec_build.specs.Build.{build_refusal}
use Rattle.build.proofs.tests.build_refusal.Goals as goal

pub returns-in_err-triangles_refusal : goal.returns-in_err-triangles_refusal
unfolding build_refusal
returns-in_err-triangles_refusal c =
    handed_on _ _ _ c.from_residual.ensures.1 (refused_first _ _ _ _ c.in_err-triangles_refusal.ensures)

pub returns-in_err-settings_refusal : goal.returns-in_err-settings_refusal
unfolding build_refusal
returns-in_err-settings_refusal c =
    handed_on _ _ _ c.from_residual-in_err-settings_refusal.ensures.1
    (passed_first _ _ _ c.in_ok-triangles_refusal.ensures (refused_first _ _ _ _ c.in_err-settings_refusal.ensures))

pub lists_refusal-requires : goal.lists_refusal-requires
lists_refusal-requires c =
    let good = triangles_passed _ (sym c.in_ok-triangles_refusal.ensures) in
    (omega (arith, good.some, c.triangle_count.ensures), omega (arith, good.few, c.triangle_count.ensures))

pub returns : goal.returns
unfolding build_refusal
returns c =
    passed_first _ _ _ c.in_ok-triangles_refusal.ensures
    (passed_first _ _ _ c.in_ok-settings_refusal.ensures (rw c.triangle_count.ensures at c.lists_refusal.ensures))
