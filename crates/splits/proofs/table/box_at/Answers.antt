-- `splits::table::box_at` meets its contract: what `point_at` ensures of each corner.
use Rattle.spec_splits.specs.Splits.{box_in}
use Rattle.splits.proofs.table.box_at.Goals as goal

pub returns : goal.returns
unfolding box_in
returns c = λ i. record { min = c.point_at.ensures i; max = c.point_at-2.ensures i }
