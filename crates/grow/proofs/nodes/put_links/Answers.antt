-- `grow::nodes::put_links` meets its contract: three numbers that are written over a part of the list.
use Rattle.std.proofs.Common.{◌≡◌, ◌+◌, ◌*◌, arith}
use Rattle.grow.proofs.Stored.{part_overwritten}
use Rattle.grow.proofs.nodes.put_links.Goals as goal

pub returns : goal.returns
returns c =
    rw c.copy_from_slice.ensures.after (part_overwritten (3 * c.args.node) _ c.args.links.now _ (omega arith))
