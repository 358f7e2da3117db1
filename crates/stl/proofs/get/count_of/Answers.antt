-- `stl::get::count_of` meets its contract: what `u32_at` ensures.
use Rattle.spec_stl.specs.Stl.{stl_count}
use Rattle.stl.proofs.get.count_of.Goals as goal

pub returns-clause-value : goal.returns-clause-value
unfolding stl_count
returns-clause-value c = c.u32_at.ensures
