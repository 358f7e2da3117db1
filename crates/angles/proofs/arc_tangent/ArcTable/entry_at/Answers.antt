-- `angles::arc_tangent::ArcTable::entry_at` meets its contract: the array of the table is that of the definitions.
use Rattle.std.proofs.Common.{ℕ, List, get_or, ap, ◌∙◌}
use Rattle.spec_angles.specs.Table.{entry}
use Rattle.angles.proofs.arc_tangent.ArcTable.entry_at.Goals as goal

pub returns : goal.returns
unfolding entry
returns c = c.from.ensures ∙ ap (λ (l : List ℕ). get_or l c.args.k 0) c.args.self.now.is_arcs
