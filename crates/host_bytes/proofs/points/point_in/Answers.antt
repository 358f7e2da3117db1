-- `host_bytes::points::point_in` meets its contract: three numbers, each plus zero.
use mathlib.Core.Path.{ap, ◌∙◌}
use Rattle.spec_numbers.specs.Values.{plus_zero}
use Rattle.spec_lists.specs.Reading.{number_at, point_at}
use Rattle.host_bytes.proofs.points.point_in.Goals as goal

pub returns : goal.returns
unfolding point_at number_at
returns c =
    λ i. record {
      x = (c.plus_zero.ensures ∙ ap plus_zero c.number_in.ensures) i;
      y = (c.plus_zero-2.ensures ∙ ap plus_zero c.number_in-2.ensures) i;
      z = (c.plus_zero-3.ensures ∙ ap plus_zero c.number_in-3.ensures) i;
    }
