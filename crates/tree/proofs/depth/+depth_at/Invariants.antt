-- `tree::depth::depth_at` calls itself with one level less.
use Rattle.tree.proofs.depth.+depth_at.Given as goal

abbrev pub decreases-depth_at : goal.decreases-depth_at
decreases-depth_at l = l.most
