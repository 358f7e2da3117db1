-- `stl::get::size_refusal` meets its contract: fewer than 84 bytes are too few for any count.
use native.Mathlib.Omega.{arith}
use borrow.Author.Tests.{lt-ltb, ne_eqb}
use mathlib.Core.Path.{◌≡◌}
use lib.ListN.{length}
use Rattle.spec_stl.specs.Stl.{stl_count, stl_size}
use Rattle.spec_stl.specs.Calls.{size_refusal}
use Rattle.stl.proofs.get.size_refusal.Goals as goal
use Rattle.stl.proofs.get.size_refusal.Goals.{then-size-lt84, else-size-lt84}

pub returns : goal.returns
unfolding size_refusal
returns c =
    let s = c.args.bytes.now in
    elim c.if-size-lt84.branch [
      | then-size-lt84 w ↦
          rw (ne_eqb (length s) (stl_size (stl_count s)) (λ (e : length s ≡ stl_size (stl_count s)). omega arith))
          (rw (w.refused_if-is, lt-ltb _ _ w.if-size-lt84.true) at c.refused_if.ensures)
      | else-size-lt84 w ↦ rw (w.refused_if-is, w.count_of.ensures.value) at c.refused_if.ensures
    ]
