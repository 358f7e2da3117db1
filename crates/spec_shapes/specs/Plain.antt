-- Boxes of plain numbers, with no NaN and no -0: their unions don't depend on the order in which they are joined.
use Rattle.std.specs.Float.{Format}
use Rattle.spec_numbers.specs.Axes.{Axis}
use Rattle.spec_numbers.specs.Plain.{Plain}
use Rattle.spec_shapes.specs.Points.{Point, on}
use Rattle.spec_shapes.specs.Boxes.{Box}

abbrev pub PlainPoint : Format → Point → Type 0
PlainPoint f a = (i : Axis) → Plain f (on i a)

pub record PlainBox (f : Format) (b : Box) : Type 0 where
  pub min : PlainPoint f b.min
  pub max : PlainPoint f b.max
