-- `test_exports::measured_at` meets its contract: where the distance and so many passed, the walk answers how many triangles it measured.
use mathlib.Core.Path.{ap, ◌∙◌, sym}
use lib.Ieee.{binary32}
use Rattle.lists.proofs.Rows.{handed}
use Rattle.spec_lists.specs.Refusals.{refuses}
use Rattle.spec_lists.proofs.Passed.{distance_passed}
use Rattle.spec_search.specs.Rules.{limit_squared}
use Rattle.spec_search.proofs.Rules.{limit_bounded}
use Rattle.spec_search.proofs.Calls.{most_passed}
use Rattle.test_exports.specs.Answered.{measured_at}
use Rattle.test_exports.proofs.Branches.{when, unless}
use Rattle.test_exports.proofs.measured_at.Goals as goal

pub returns-in_err-distance_refusal : goal.returns-in_err-distance_refusal
unfolding measured_at
returns-in_err-distance_refusal c =
    rw (handed _ _ c.from_residual.ensures.1) (when _ _ _ (sym (ap refuses c.in_err-distance_refusal.ensures)))

pub returns-in_err-most_refusal : goal.returns-in_err-most_refusal
unfolding measured_at
returns-in_err-most_refusal c =
    rw (handed _ _ c.from_residual-in_err-most_refusal.ensures.1) (when _ _ _ (sym (ap refuses c.in_err-most_refusal.ensures))
    ∙ unless _ _ _ (sym (ap refuses c.in_ok-distance_refusal.ensures)))

pub search-requires : goal.search-requires
unfolding limit_squared
search-requires c =
    record {
      searchable = c.requires;
      limit_finite = limit_bounded binary32 _ (distance_passed _ (sym c.in_ok-distance_refusal.ensures));
      le_most = most_passed _ (sym c.in_ok-most_refusal.ensures);
    }

pub returns : goal.returns
unfolding limit_squared measured_at
returns c =
    c.search.ensures.measured_is
    ∙ unless _ _ _ (sym (ap refuses c.in_ok-most_refusal.ensures))
    ∙ unless _ _ _ (sym (ap refuses c.in_ok-distance_refusal.ensures))
