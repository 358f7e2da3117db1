-- `angles::arc_tangent::angle_by` meets its contract: its test is `askable`.
use Rattle.std.proofs.Common.{◌≡◌, Bool, true, ◌&&◌, refl}
use lib.Ieee.{Float, ne, of_bits, div}
use lib.Ieee.Scale.{finite}
use Rattle.spec_numbers.specs.Values.{zero}
use Rattle.spec_numbers.proofs.Tests.{passed}
use Rattle.spec_angles.specs.Angle.{askable, angle_or_nan}
use Rattle.spec_angles.proofs.Needs.{askable_is}
use Rattle.angles.proofs.arc_tangent.angle_by.Goals as goal

-- t and u are what `is_finite` answered
tested : (n d : Float) (t u b : Bool) → t ≡ finite n → u ≡ finite d → (t && u && ne n zero) ≡ b → askable n d ≡ b
unfolding ne
tested n d t u b p q e = rw (p, q) at e

pub arc_tangent-requires : goal.arc_tangent-requires
unfolding of_bits
arc_tangent-requires c =
    let n = c.args.n in
    let d = c.args.d in
    askable_is n d (passed (tested n d _ _ true c.is_finite.ensures c.is_finite-2.ensures c.if-is_finite-n.true))

pub returns-then-is_finite-n : goal.returns-then-is_finite-n
unfolding of_bits angle_or_nan
returns-then-is_finite-n c =
    rw (
      c.arc_tangent.ensures,
      tested c.args.n c.args.d _ _ _ c.is_finite.ensures c.is_finite-2.ensures
          c.if-is_finite-n.true,
    ) refl

pub returns-else-is_finite-n : goal.returns-else-is_finite-n
unfolding of_bits angle_or_nan div
returns-else-is_finite-n c =
    rw (tested c.args.n c.args.d _ _ _ c.is_finite.ensures c.is_finite-2.ensures c.if-is_finite-n.false) refl
