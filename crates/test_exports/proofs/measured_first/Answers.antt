-- `test_exports::measured_first` meets its contract: it searches only where the check passed.
use mathlib.Core.Path.{sym, ◌∙◌}
use lib.Ieee.{binary32}
use borrow.Author.Tests.{le-leb, lt-leb}
use Rattle.lists.proofs.Rows.{handed}
use Rattle.test_exports.proofs.Branches.{when, unless}
use Rattle.test_exports.proofs.First.{nothing_measured, searchable, measured}
use Rattle.test_exports.proofs.measured_first.Goals as goal

pub returns-in_err-check : goal.returns-in_err-check
returns-in_err-check c =
    rw (handed _ _ c.from_residual.ensures.1) (nothing_measured _ _ _ _ _ _ _ _ _ _ _ _ c.in_err-check.ensures)

pub returns-then-points-lt3 : goal.returns-then-points-lt3
returns-then-points-lt3 c =
    measured _ _ _ _ _ _ _ _ _ _ _ (sym c.in_ok-check.ensures) (unless _ _ _ (lt-leb _ _ c.if-points-lt3.true))

pub measured_at-requires : goal.measured_at-requires
measured_at-requires c = searchable binary32 _ _ _ _ _ (sym c.in_ok-check.ensures)

pub returns : goal.returns
returns c =
    measured _ _ _ _ _ _ _ _ _ _ _ (sym c.in_ok-check.ensures)
    (rw c.point_at.ensures at c.measured_at.ensures ∙ when _ _ _ (le-leb _ _ c.if-points-lt3.false))
