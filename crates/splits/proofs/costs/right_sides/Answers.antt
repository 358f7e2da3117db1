-- `splits::costs::right_sides` meets its contract. The invariant: `right` is the side behind bucket i, and the sides from there on are stored.
use Rattle.std.proofs.Common.{◌≡◌, ◌+◌, ◌-◌, arith}
use lib.Ieee.{binary32}
use Rattle.spec_splits.proofs.Sweeps.{down_starts, down_fits, down_goes_on, down_ends}
use Rattle.splits.specs.Values.{as_bucket}
use Rattle.splits.proofs.Stored.{unmapped, no_bucket}
use Rattle.splits.proofs.costs.right_sides.Goals as goal

pub loop-i-init : goal.loop-i-init
loop-i-init c =
    down_starts as_bucket binary32 c.args.buckets.each no_bucket (search (unmapped, c.well_formed)) _ _ c.empty-sides.ensures c.empty-right.ensures

pub merged-right-requires : goal.merged-right-requires
merged-right-requires c =
    let loop = c.loop-i in
    let here : loop.i - 1 + 1 ≡ loop.i = omega arith in
    rw here (down_fits as_bucket binary32 c.args.buckets.each no_bucket (search (unmapped, c.well_formed)) _ _ loop.i loop.invariant c.requires)

pub loop-i-preserved : goal.loop-i-preserved
loop-i-preserved c =
    let loop = c.loop-i in
    let here : loop.i - 1 + 1 ≡ loop.i = omega arith in
    down_goes_on as_bucket binary32 c.args.buckets.each no_bucket (search (unmapped, c.well_formed)) _ _ loop.i loop.invariant c.requires
    c.merged-right.result (loop.i - 1) here (rw here at c.merged-right.ensures)

pub returns : goal.returns
returns c =
    let loop = c.loop-i in
    down_ends as_bucket binary32 c.args.buckets.each no_bucket (search (unmapped, c.well_formed)) _ _ loop.i loop.invariant (omega arith)
