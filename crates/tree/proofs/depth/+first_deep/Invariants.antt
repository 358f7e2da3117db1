-- `tree::depth::first_deep` calls itself with one level less.
use Rattle.tree.proofs.depth.+first_deep.Given as goal

abbrev pub decreases-first_deep : goal.decreases-first_deep
decreases-first_deep l = l.levels
