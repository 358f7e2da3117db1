-- `walks::source::search` meets its contract: an accepted tree is safe to walk from its root, and what is kept at first stands for nothing.
use mathlib.Core.Path.{◌∙◌}
use lib.Ieee.{of_bits, eq}
use Rattle.spec_search.specs.Kept.{kept}
use Rattle.spec_search.specs.Source.{source_walk}
use Rattle.spec_search.proofs.Calls.{root_there, root_safe}
use Rattle.walks.specs.Places.{slot_at}
use Rattle.walks.proofs.Reached.{reached_is}
use Rattle.walks.proofs.source.search.Goals as goal

pub overflow_sub-root : goal.overflow_sub-root
overflow_sub-root c =
    root_there _ _ _ _ _ c.requires

pub look-measured-requires : goal.look-measured-requires
look-measured-requires c = root_safe _ _ _ _ _ c.requires

pub returns : goal.returns
unfolding source_walk kept of_bits eq slot_at
returns c =
    (λ i. record { best = c.answer-best.ensures i; measured = c.look-measured.result }) ∙ reached_is c.look-measured.ensures
