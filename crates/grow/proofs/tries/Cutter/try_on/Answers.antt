-- `grow::tries::Cutter::try_on` meets its contract: the slice is sorted, and the rule is applied to it.
use lib.Ieee.{binary32}
use Rattle.shapes.specs.Values.{as_axis, as_box}
use Rattle.spec_build.proofs.Trying.{try_sort_needs, try_sorted, try_rule_needs, try_gives}
use Rattle.grow.proofs.tries.Cutter.try_on.Goals as goal

pub sort_on-requires : goal.sort_on-requires
sort_on-requires c =
    try_sort_needs binary32 _ _ c.requires (as_axis c.args.axis)

pub rule-requires : goal.rule-requires
rule-requires c =
    try_rule_needs binary32 _ _ (try_sorted binary32 _ _ c.requires c.args.self.now.strategy (as_axis c.args.axis) (as_box c.args.parent) _
    c.sort_on.ensures)

pub returns : goal.returns
returns c =
    try_gives binary32 _ _ c.requires c.args.self.now.strategy (as_axis c.args.axis) (as_box c.args.parent) _ c.sort_on.ensures _
    c.rule.ensures
