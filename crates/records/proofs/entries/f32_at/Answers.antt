-- `records::entries::f32_at` meets its contract: the number of the four bytes as a pattern.
use mathlib.Core.Path.{ap, ◌∙◌}
use lib.Ieee.{of_bits, binary32}
use Rattle.records.proofs.entries.f32_at.Goals as goal

pub returns : goal.returns
returns c = c.from_bits.ensures ∙ ap (of_bits binary32) c.u32_at.ensures
