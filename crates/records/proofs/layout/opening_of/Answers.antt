-- `records::layout::opening_of` meets its contract: each return is a case of the two tests.
use mathlib.Core.Path.{sym, ◌∙◌}
use Rattle.records.proofs.layout.opening_of.Goals as goal

pub returns-then-not-has_settings : goal.returns-then-not-has_settings
returns-then-not-has_settings c = rw (sym c.has_settings.ensures ∙ c.if-not-has_settings.true)
