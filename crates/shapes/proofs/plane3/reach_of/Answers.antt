-- `shapes::plane3::reach_of` meets its contract: the dot product with the magnitude on each axis.
use Rattle.std.proofs.Common.{rules, ap, ◌∙◌}
use lib.Ieee.{binary32}
use Rattle.spec_numbers.specs.Values.{abs}
use Rattle.spec_shapes.specs.Points.{Point, dot}
use Rattle.spec_shapes.specs.Planes.{reach}
use Rattle.shapes.specs.Values.{as_point}
use Rattle.shapes.proofs.Coordinates.{by_coordinates}
use Rattle.shapes.proofs.plane3.reach_of.Goals as goal

pub returns : goal.returns
unfolding reach dot
returns c =
    let n = c.args.normal in
    let sizes : Point = record { x = abs n.x; y = abs n.y; z = abs n.z } in
    c.dot.ensures ∙ ap (dot binary32 (as_point c.args.halves)) (by_coordinates c.map.result sizes (search rules) (search rules) (search rules))
