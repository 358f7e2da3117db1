-- `tree::boxes::range_box` meets its contract: a range that is not empty gives a slice that is not, of entries below the count.
use Prim.Native.Nat.{◌-◌}
use Rattle.spec_tree.proofs.Order.{slice_some, slice_entries}
use Rattle.tree.proofs.boxes.range_box.Goals as goal

pub joined-requires : goal.joined-requires
joined-requires c =
    let first = c.args.first in
    let size = c.args.last - first in
    record { some = slice_some _ _ _ c.requires.some c.requires.within; numbered = slice_entries _ c.args.order.now first size c.requires.numbered }
