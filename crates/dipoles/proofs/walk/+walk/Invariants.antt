-- `dipoles::walk::walk` calls itself with one level less.
use Rattle.dipoles.proofs.walk.+walk.Given as goal

abbrev pub decreases-walk : goal.decreases-walk
decreases-walk l = l.levels
