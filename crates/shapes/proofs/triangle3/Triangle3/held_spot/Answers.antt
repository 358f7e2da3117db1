-- `shapes::triangle3::Triangle3::held_spot` meets its contract: what each call ensures, put in.
use mathlib.Core.Path.{ap, ◌∙◌}
use lib.Ieee.{binary32}
use Rattle.spec_shapes.specs.Triangles.{held_from, held_spot}
use Rattle.shapes.proofs.triangle3.Triangle3.held_spot.Goals as goal

pub returns : goal.returns
unfolding held_spot
returns c = c.held.ensures ∙ ap (held_from binary32 _ _) c.closest_spot.ensures
