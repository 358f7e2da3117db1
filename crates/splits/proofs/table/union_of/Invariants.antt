-- `splits::table::union_of` meets its contract. The invariant: the boxes that remain, joined to the box so far, give the union of the whole slice.
use Rattle.std.proofs.Common.{◌≡◌, drop}
use mathlib.Core.List.{foldl}
use lib.Ieee.{binary32}
use Rattle.spec_shapes.specs.Boxes.{union}
use Rattle.shapes.specs.Values.{as_box}
use Rattle.spec_splits.specs.Splits.{boxes_in, union_of}
use Rattle.splits.proofs.table.union_of.Given as goal

abbrev pub invariant-loop-t : goal.invariant-loop-t
invariant-loop-t l =
    foldl union (as_box l.joined) (boxes_in l.bounds (drop l.t-index l.t-items)) ≡ union_of binary32 (boxes_in l.bounds l.slice)
