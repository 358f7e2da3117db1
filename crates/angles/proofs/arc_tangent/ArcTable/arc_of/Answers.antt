-- `angles::arc_tangent::ArcTable::arc_of` meets its contract: the last entry, or a point on the line between two.
use Rattle.std.proofs.Common.{◌∙◌, ap, le_of_lt}
use Rattle.spec_angles.specs.Table.{entry}
use Rattle.spec_angles.proofs.Arc.{at_the_end, rises, product_fits, on_the_line}
use Rattle.angles.proofs.arc_tangent.ArcTable.arc_of.Goals as goal

pub returns-then-k-eq1024 : goal.returns-then-k-eq1024
returns-then-k-eq1024 c = c.entry_at-from.ensures ∙ ap entry c.if-k-eq1024.true ∙ at_the_end c.args.u c.if-k-eq1024.true

pub overflow_sub-result : goal.overflow_sub-result
overflow_sub-result c =
    le_of_lt (rises _ _ _ c.requires c.if-k-eq1024.false c.entry_at-from.ensures c.entry_at-to.ensures)

pub overflow_mul-result : goal.overflow_mul-result
overflow_mul-result c =
    record { fits = product_fits _ _ _ c.requires c.if-k-eq1024.false c.entry_at-from.ensures c.entry_at-to.ensures }

pub returns : goal.returns
returns c = on_the_line _ _ _ c.requires c.if-k-eq1024.false c.entry_at-from.ensures c.entry_at-to.ensures
