-- `lists::refusal::refused_if` meets its contract: each arm answers what the flag picks.
use Rattle.lists.proofs.refusal.refused_if.Goals as goal

pub returns-then-refuses : goal.returns-then-refuses
returns-then-refuses c = rw c.if-refuses.true

pub returns-else-refuses : goal.returns-else-refuses
returns-else-refuses c = rw c.if-refuses.false
