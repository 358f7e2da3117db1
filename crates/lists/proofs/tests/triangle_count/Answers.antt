-- `lists::tests::triangle_count` meets its contract, which is its body.
use mathlib.Core.Path.{refl}
use Rattle.spec_lists.specs.Reading.{triangle_count}
use Rattle.lists.proofs.tests.triangle_count.Goals as goal

pub returns : goal.returns
unfolding triangle_count
returns c = refl
