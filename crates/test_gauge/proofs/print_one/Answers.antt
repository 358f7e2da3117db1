-- `test_gauge::print_one` is safe and ends: what was printed lies within the array that it was printed into.
-- The length of an array comes from the law of `replicate`: computing it would cost as much as it is long.
use mathlib.Core.Path.{sym}
use Prim.Native.Nat.{ℕ}
use native.Mathlib.Nat.{le_of_eq}
use lib.ListN.{length-replicate}
use lib.Seq.{length-take-le}
use Rattle.spec_tables.proofs.Tables.{put_long}
use Rattle.spec_gauge.specs.Printed.{max_printed}
use Rattle.test_gauge.proofs.print_one.Goals as goal

pub slice_bounds-print-end : goal.slice_bounds-print-end
slice_bounds-print-end c = sym (length-replicate {A = ℕ} max_printed 0)

pub print-size-requires : goal.print-size-requires
print-size-requires c = le_of_eq (sym (length-replicate {A = ℕ} max_printed 0))

pub slice_bounds-out-end : goal.slice_bounds-out-end
slice_bounds-out-end c = rw (put_long c.print-size.ensures) c.print-size.ensures.within

pub slice_bounds-write_all-end : goal.slice_bounds-write_all-end
slice_bounds-write_all-end c = sym (length-take-le _ _ (rw (put_long c.print-size.ensures) c.print-size.ensures.within))
