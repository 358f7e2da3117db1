-- `angles::root::scaled` meets its contract: a subnormal number has no leading digit, and a normal one has it.
use Rattle.spec_angles.proofs.RootByBits.{scaled_normal}
use Rattle.angles.proofs.root.scaled.Goals as goal

pub returns-else-bits-lt8388608 : goal.returns-else-bits-lt8388608
returns-else-bits-lt8388608 c = scaled_normal c.args.bits _ _ c.if-bits-lt8388608.false c.by_fours-else-bits-lt8388608.ensures
