-- `lists::settings::are_settings` meets its contract, which is its body.
use mathlib.Core.Path.{refl}
use Rattle.spec_lists.specs.Refusals.{are_settings}
use Rattle.lists.proofs.settings.are_settings.Goals as goal

pub returns : goal.returns
unfolding are_settings
returns c = refl
