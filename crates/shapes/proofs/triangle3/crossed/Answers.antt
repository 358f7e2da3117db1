-- `shapes::triangle3::crossed` meets its contract.
use mathlib.Core.Path.{refl}
use Rattle.spec_shapes.specs.Triangles.{crossed}
use Rattle.shapes.proofs.triangle3.crossed.Goals as goal

pub returns : goal.returns
unfolding crossed
returns c = refl
