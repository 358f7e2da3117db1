-- `splits::table::centre_on` meets its contract: the two numbers of the axis stand at its place in the box.
use lib.Ieee.{binary32, of_bits}
use Rattle.shapes.specs.Values.{as_axis}
use Rattle.spec_splits.proofs.Table.{centre_in}
use Rattle.splits.proofs.table.centre_on.Goals as goal

pub returns : goal.returns
unfolding of_bits
returns c =
    rw c.place_of.ensures (centre_in binary32 c.args.bounds.now c.args.t (as_axis c.args.axis))
