-- `test_image::large::put_all` is safe and ends: the length of an array comes from the law of `replicate`, computing it would cost as much as it
-- is long.
use Rattle.std.proofs.Common.{ℕ, sym}
use lib.ListN.{length-replicate}
use lib.Ieee.{Float, binary32, of_bits}
use Rattle.test_image.proofs.large.put_all.Goals as goal

pub slice_bounds-try_cases-end : goal.slice_bounds-try_cases-end
slice_bounds-try_cases-end c = sym (length-replicate {A = Float} 589833 (of_bits binary32 0))

pub slice_bounds-try_cases-end-2 : goal.slice_bounds-try_cases-end-2
slice_bounds-try_cases-end-2 c = sym (length-replicate {A = ℕ} 65537 0)

pub slice_bounds-try_cases-end-3 : goal.slice_bounds-try_cases-end-3
slice_bounds-try_cases-end-3 c = sym (length-replicate {A = ℕ} 2621574 0)
