-- `grow::grow::grow` calls itself with one level less.
use Rattle.grow.proofs.grow.+grow.Given as goal

abbrev pub decreases-grow : goal.decreases-grow
decreases-grow l = l.levels_remaining
