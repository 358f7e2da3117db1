-- `node_walk` calls `pair_walk` with one level less, and `pair_walk` calls `node_walk` with the same levels: 2d and 2d + 1.
use Rattle.std.proofs.Common.{◌+◌}
use Rattle.walks.proofs.sure.+node_walk_pair_walk.Given as goal

abbrev pub decreases-node_walk : goal.decreases-node_walk
decreases-node_walk l = l.depth + l.depth

abbrev pub decreases-pair_walk : goal.decreases-pair_walk
decreases-pair_walk l = l.depth + l.depth + 1
