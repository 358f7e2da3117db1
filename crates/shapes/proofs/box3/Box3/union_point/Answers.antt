-- `shapes::box3::Box3::union_point` meets its contract: what `union_box` ensures of the box that p alone makes.
use mathlib.Core.Path.{ap, ◌∙◌}
use Rattle.spec_shapes.specs.Boxes.{union, union_point}
use Rattle.shapes.proofs.box3.Box3.union_point.Goals as goal

pub returns : goal.returns
unfolding union union_point
returns c = c.union_box.ensures ∙ ap (union _) c.new.ensures
