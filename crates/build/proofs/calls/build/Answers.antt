-- `build::calls::build` meets its contract: what is refused changes nothing, and what passes is built.
use mathlib.Core.Path.{sym}
use lib.Ieee.{binary32}
use Rattle.lists.proofs.Rows.{handed}
use Rattle.spec_build.proofs.Building.{refusal_gives}
use Rattle.build.proofs.calls.build.Goals as goal

pub returns-in_err-build_refusal : goal.returns-in_err-build_refusal
returns-in_err-build_refusal c =
    rw (handed _ _ c.from_residual.ensures.1) (refusal_gives binary32 _ _ _ _ _ (sym c.in_err-build_refusal.ensures))

pub build_passed-requires : goal.build_passed-requires
build_passed-requires c = sym c.in_ok-build_refusal.ensures
