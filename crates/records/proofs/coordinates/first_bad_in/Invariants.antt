-- `records::coordinates::first_bad_in` meets its contract.
-- The invariant: the answer is the index and the number of coordinates from there on.
use mathlib.Core.Path.{◌≡◌}
use Prim.Native.Nat.{◌+◌}
use lib.ListN.{drop}
use lib.Ieee.{binary32}
use Rattle.spec_records.specs.Entries.{floats_in}
use Rattle.spec_lists.specs.Refusals.{first_bad}
use Rattle.records.proofs.coordinates.first_bad_in.Given as goal

abbrev pub invariant-loop-i : goal.invariant-loop-i
invariant-loop-i l = l.i + first_bad (drop l.i (floats_in binary32 l.bytes l.start l.count)) ≡ first_bad (floats_in binary32 l.bytes l.start l.count)
