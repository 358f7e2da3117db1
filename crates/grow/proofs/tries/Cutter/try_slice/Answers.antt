-- `grow::tries::Cutter::try_slice` meets its contract: what `union_of` and `try_axes` ensure.
use native.Mathlib.Omega.{arith}
use lib.Ieee.{binary32}
use Rattle.spec_build.proofs.Trying.{try_rule_needs, tried_is}
use Rattle.grow.proofs.tries.Cutter.try_slice.Goals as goal

pub union_of-parent-requires : goal.union_of-parent-requires
union_of-parent-requires c =
    record { slice_nonzero = omega (arith, c.requires.some); all_in_table = (try_rule_needs binary32 _ _ c.requires).boxed.in_table }

pub returns : goal.returns
returns c =
    tried_is binary32 _ _ _ _ _ (omega (arith, c.requires.some)) c.union_of-parent.ensures c.try_axes.ensures
