-- `grow::tries::Cutter::try_axes` meets its contract. The invariant: the tries on the axes that remain are, from here, those on all.
use mathlib.Core.Path.{◌≡◌}
use lib.ListN.{drop}
use lib.Ieee.{binary32}
use Rattle.shapes.specs.Values.{as_box}
use Rattle.spec_splits.specs.Splits.{box_in}
use Rattle.spec_build.specs.Tries.{tried_in, tried_within}
use Rattle.spec_build.specs.Growing.{Triable}
use Rattle.grow.specs.Values.{as_axes}
use Rattle.grow.proofs.tries.Cutter.try_axes.Given as goal

abbrev pub invariant-loop-axis : goal.invariant-loop-axis
invariant-loop-axis l = record {
  may : Triable binary32 l.self.bounds.now l.self.centres.now l.slice l.scratch;
  rest_is : tried_in binary32 (box_in l.self.bounds.now) l.self.strategy (as_axes (drop l.axis-index l.axis-items)) (as_box l.parent) l.slice
      ≡ tried_within binary32 (box_in l.self.bounds.now) l.self.strategy (as_box l.parent) l.initial.slice;
}
