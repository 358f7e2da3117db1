-- `angles::root::whole_root` meets its contract. The invariant: the root lies from r on and below r + step. The measure is the step.
use Rattle.std.proofs.Common.{lt_of_lt_of_le, arith}
use Rattle.spec_angles.proofs.Powers.{square_mono}
use Rattle.spec_angles.proofs.WholeRoot.{whole_root_lem, whole_root_unique}
use Rattle.angles.proofs.root.whole_root.Goals as goal

pub loop-step-preserved-then-middle-n : goal.loop-step-preserved-then-middle-n
loop-step-preserved-then-middle-n c =
    let l = c.loop-step in
    record {
      low = c.if-middle-n.true;
      high = lt_of_lt_of_le l.invariant.high (square_mono (omega arith));
      least = omega arith;
      most = omega arith;
    }

pub returns : goal.returns
returns c =
    let l = c.loop-step in
    whole_root_unique
    record { low = l.invariant.low; high = lt_of_lt_of_le l.invariant.high (square_mono (omega arith)) }
    (whole_root_lem 24 c.args.n (omega arith))
