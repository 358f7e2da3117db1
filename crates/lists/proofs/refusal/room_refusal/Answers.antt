-- `lists::refusal::room_refusal` meets its contract: what `refused_if` ensures.
use Rattle.spec_lists.specs.Refusals.{room_refusal}
use Rattle.lists.proofs.refusal.room_refusal.Goals as goal

pub returns : goal.returns
unfolding room_refusal
returns c = c.refused_if.ensures
