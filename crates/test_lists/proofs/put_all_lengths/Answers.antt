-- The length of an array comes from the law of `replicate`: computing it would cost as much as it is long.
use mathlib.Core.Path.{sym}
use lib.ListN.{length-replicate}
use lib.Ieee.{Float, binary32, of_bits}
use Rattle.test_lists.proofs.put_all_lengths.Goals as goal

pub slice_bounds-put_lengths-end : goal.slice_bounds-put_lengths-end
slice_bounds-put_lengths-end c = sym (length-replicate {A = Float} 589833 (of_bits binary32 0))
