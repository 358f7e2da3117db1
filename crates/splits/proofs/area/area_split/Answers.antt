-- `splits::area::area_split` meets its contract: what each call ensures, put in.
-- The counts of the buckets are small, since the slice is short, and their boxes plain, since the triangles' are.
use lib.ListN.{length-map}
use lib.Ieee.{binary32}
use Rattle.shapes.specs.Values.{as_axis}
use Rattle.spec_splits.specs.Splits.{box_in, boxes_in}
use Rattle.spec_splits.specs.Area.{area_split}
use Rattle.spec_splits.proofs.Buckets.{filled_small, filled_plain}
use Rattle.spec_splits.proofs.Area.{bucket_on_axis}
use Rattle.splits.proofs.area.area_split.Goals as goal

pub costs_of-requires : goal.costs_of-requires
costs_of-requires c =
    let args = c.args in
    rw c.fill-buckets.ensures (record {
      are_small = filled_small binary32 _ (boxes_in args.bounds.now args.slice.now) (rw length-map c.requires.slice_len_bound);
      are_plain = filled_plain binary32 _ (box_in args.bounds.now) args.slice.now c.requires.boxed.plain;
    })

pub returns : goal.returns
unfolding area_split
returns c =
    let args = c.args in
    let within = c.centre_span-within in
    rw (
      c.cut_by.ensures,
      c.cheapest_of-best.ensures,
      c.costs_of.ensures,
      c.fill-buckets.ensures,
      within.ensures.axis_is,
      bucket_on_axis binary32 (as_axis args.axis) _ within.result.lo within.result.hi within.ensures.ends,
    )
