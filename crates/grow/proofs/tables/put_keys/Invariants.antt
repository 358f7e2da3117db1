-- `grow::tables::put_keys` meets its contract: a turn stores one centre behind those that stand there.
use mathlib.Core.List.{[], ◌∷◌}
use lib.Ieee.{binary32}
use Rattle.shapes.specs.Values.{as_axis}
use Rattle.spec_tables.proofs.Runs.{Run}
use Rattle.spec_splits.specs.Splits.{box_in}
use Rattle.spec_build.specs.Tries.{centre_on}
use Rattle.grow.proofs.tables.put_keys.Given as goal

abbrev pub invariant-loop-t : goal.invariant-loop-t
invariant-loop-t l = Run (λ k. centre_on binary32 (box_in l.bounds) (as_axis l.axis) k ∷ []) 0 l.count l.initial.keys l.keys l.t
