-- `walks::places::Places::answer` meets its contract: 1 / 0 is infinite, and there nothing is kept.
use mathlib.Core.Path.{ap, ◌∙◌}
use lib.Ieee.{of_bits}
use Rattle.spec_search.specs.Kept.{kept}
use Rattle.spec_search.proofs.Kept.{stands_nothing, stands_found}
use Rattle.walks.specs.Values.{as_hit}
use Rattle.walks.proofs.places.Places.answer.Goals as goal

pub returns-then-hit : goal.returns-then-hit
unfolding of_bits
returns-then-hit c = stands_nothing (as_hit c.slot_at-hit.result) c.if-hit.true ∙ ap kept c.slot_at-hit.ensures

pub returns : goal.returns
unfolding of_bits
returns c = stands_found (as_hit c.slot_at-hit.result) c.if-hit.false ∙ ap kept c.slot_at-hit.ensures
