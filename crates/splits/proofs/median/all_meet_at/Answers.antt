-- `splits::median::all_meet_at` meets its contract: what each call ensures, put in. The two neighbours are the list's.
use Rattle.std.proofs.Common.{◌-◌, arith}
use lib.Ieee.{binary32}
use Rattle.spec_shapes.specs.Boxes.{empty}
use Rattle.spec_splits.specs.Splits.{box_in}
use Rattle.spec_splits.specs.Median.{all_meet_at}
use Rattle.spec_splits.proofs.Table.{at_map}
use Rattle.splits.proofs.median.all_meet_at.Goals as goal

pub returns : goal.returns
unfolding all_meet_at
returns c =
    let args = c.args in
    let pre = c.requires in
    rw (
      c.all_meet.ensures,
      c.plane_between.ensures,
      at_map (box_in args.bounds.now) args.slice.now args.cut 0 (empty binary32) pre.cut_in_bounds,
      at_map (box_in args.bounds.now) args.slice.now (args.cut - 1) 0 (empty binary32) (omega arith),
    )
