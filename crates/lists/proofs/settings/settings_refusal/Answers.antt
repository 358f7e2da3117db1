-- `lists::settings::settings_refusal` meets its contract: what `are_settings` and `refused_if` ensure.
use Rattle.spec_lists.specs.Refusals.{settings_refusal}
use Rattle.lists.proofs.settings.settings_refusal.Goals as goal

pub returns : goal.returns
unfolding settings_refusal
returns c = rw (c.refused_if.ensures, c.are_settings.ensures)
