-- `shapes::box3::Box3::hold` meets its contract: what `largest` and then `smallest` ensure, on each axis.
use mathlib.Core.Path.{ap, ◌∙◌}
use Rattle.spec_shapes.specs.Points.{Point, smallest, largest}
use Rattle.spec_shapes.specs.Boxes.{held_in}
use Rattle.shapes.specs.Values.{as_point}
use Rattle.shapes.proofs.box3.Box3.hold.Goals as goal

pub returns : goal.returns
unfolding held_in smallest largest
returns c = c.smallest.ensures ∙ ap (λ (q : Point). smallest q (as_point c.args.self.max)) c.largest.ensures
