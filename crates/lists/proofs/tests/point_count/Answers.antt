-- `lists::tests::point_count` meets its contract, which is its body.
use mathlib.Core.Path.{refl}
use Rattle.spec_lists.specs.Reading.{point_count}
use Rattle.lists.proofs.tests.point_count.Goals as goal

pub returns : goal.returns
unfolding point_count
returns c = refl
