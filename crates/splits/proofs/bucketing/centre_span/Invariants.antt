-- `splits::bucketing::centre_span` meets its contract.
-- The invariant: from the two ends so far, the centres that remain give the ends of the whole slice.
use Rattle.std.proofs.Common.{◌≡◌, drop}
use mathlib.Core.List.{foldl}
use lib.Ieee.{binary32}
use Rattle.spec_numbers.specs.Values as Values
use Rattle.shapes.specs.Values.{as_axis}
use Rattle.spec_splits.specs.Splits.{boxes_in}
use Rattle.spec_splits.proofs.Area.{lower_end_lem, upper_end_lem}
use Rattle.splits.proofs.bucketing.centre_span.Given as goal

abbrev pub invariant-loop-t : goal.invariant-loop-t
invariant-loop-t l =
    (foldl (lower_end_lem binary32 (as_axis l.axis)) l.lo (boxes_in l.bounds (drop l.t-index l.slice))
    ≡ foldl (lower_end_lem binary32 (as_axis l.axis)) (Values.largest binary32) (boxes_in l.bounds l.slice))
    × (foldl (upper_end_lem binary32 (as_axis l.axis)) l.hi (boxes_in l.bounds (drop l.t-index l.slice))
    ≡ foldl (upper_end_lem binary32 (as_axis l.axis)) (Values.least binary32) (boxes_in l.bounds l.slice))
