-- `test_exports::timing_solid` meets its contract: the angle of one triangle from one point, else a NaN.
use mathlib.Core.Path.{◌∙◌}
use lib.Ieee.{of_bits, div}
use borrow.Author.Tests.{eq-eqb, ne_eqb}
use Rattle.test_exports.specs.Answered.{angle_of_one}
use Rattle.test_exports.proofs.Branches.{when, unless}
use Rattle.test_exports.proofs.timing_solid.Goals.{then-triangle-ne9-via-then-triangle-ne9, then-triangle-ne9-via-else-triangle-ne9+then-point-ne3}
use Rattle.test_exports.proofs.timing_solid.Goals as goal

pub returns-then-triangle-ne9 : goal.returns-then-triangle-ne9
unfolding angle_of_one of_bits div
returns-then-triangle-ne9 c =
    elim c.then-triangle-ne9.branch [
      | then-triangle-ne9-via-then-triangle-ne9 w ↦ unless _ _ _ (ne_eqb _ _ w.if-triangle-ne9.true)
      | then-triangle-ne9-via-else-triangle-ne9+then-point-ne3 w ↦
          unless _ _ _ (ne_eqb _ _ w.if-point-ne3.true) ∙ when _ _ _ (eq-eqb _ _ w.if-triangle-ne9.false)
    ]

pub returns : goal.returns
unfolding angle_of_one
returns c =
    rw (c.triangle_at-t.ensures, c.point_at-p.ensures) at c.solid_angle.ensures
    ∙ when _ _ _ (eq-eqb _ _ c.if-point-ne3.false)
    ∙ when _ _ _ (eq-eqb _ _ c.if-triangle-ne9.false)
