-- `angles::root::root_or_nan` meets its contract: its test is `rootable`.
use Rattle.std.proofs.Common.{◌≡◌, Bool, true, ◌&&◌, sym, refl, ◌∙◌}
use lib.Ieee.{Float, le, of_bits, div}
use lib.Ieee.Scale.{finite}
use Rattle.spec_numbers.specs.Values.{zero}
use Rattle.spec_numbers.proofs.Tests.{passed}
use Rattle.spec_angles.specs.Root.{rootable, root_or_nan}
use Rattle.spec_angles.proofs.Needs.{rootable_is}
use Rattle.angles.proofs.root.root_or_nan.Goals as goal

-- t is what `is_finite` answered
tested : (x : Float) (t b : Bool) → t ≡ finite x → (t && le zero x) ≡ b → rootable x ≡ b
tested x t b p e = sym (rootable_is x) ∙ (rw p at e)

pub root-requires : goal.root-requires
unfolding of_bits
root-requires c = passed (tested _ _ true c.is_finite.ensures c.if-is_finite-x.true)

pub returns-then-is_finite-x : goal.returns-then-is_finite-x
unfolding of_bits root_or_nan
returns-then-is_finite-x c = rw (c.root.ensures, tested c.args.x _ _ c.is_finite.ensures c.if-is_finite-x.true) refl

pub returns-else-is_finite-x : goal.returns-else-is_finite-x
unfolding of_bits root_or_nan div
returns-else-is_finite-x c = rw (tested c.args.x _ _ c.is_finite.ensures c.if-is_finite-x.false) refl
