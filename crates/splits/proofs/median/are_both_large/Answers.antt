-- `splits::median::are_both_large` meets its contract: what `is_large` ensures of each half.
use Rattle.std.proofs.Common.{sym, ◌∙◌}
use Rattle.spec_splits.specs.Splits.{box_in}
use Rattle.spec_splits.specs.Median.{are_both_large}
use Rattle.spec_splits.proofs.Table.{map_take, map_drop, to_the_end}
use Rattle.splits.proofs.median.are_both_large.Goals as goal

pub returns-then-is_large : goal.returns-then-is_large
unfolding are_both_large
returns-then-is_large c =
    let args = c.args in
    let left = rw (map_take (box_in args.bounds.now)) at (sym c.is_large.ensures ∙ c.if-is_large.true) in
    rw (c.is_large-then-is_large.ensures, to_the_end args.cut args.slice.now, map_drop (box_in args.bounds.now), left)

pub returns-else-is_large : goal.returns-else-is_large
unfolding are_both_large
returns-else-is_large c =
    let args = c.args in
    let left = rw (map_take (box_in args.bounds.now)) at (sym c.is_large.ensures ∙ c.if-is_large.false) in
    rw (left, c.if-is_large.false)
