-- `look` calls `look_if_entered` with one level less, and `look_if_entered` calls `look` with the same levels: 2d and 2d + 1.
use Rattle.std.proofs.Common.{◌+◌}
use Rattle.walks.proofs.source.+look_look_if_entered.Given as goal

abbrev pub decreases-look : goal.decreases-look
decreases-look l = l.depth + l.depth

abbrev pub decreases-look_if_entered : goal.decreases-look_if_entered
decreases-look_if_entered l = l.depth + l.depth + 1
