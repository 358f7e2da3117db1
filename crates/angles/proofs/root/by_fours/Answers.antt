-- `angles::root::by_fours` meets its contract.
-- Shifted up by its spare places the significand has 24 digits; 23 or 24 places more leave an even power.
use Rattle.std.proofs.Common.{arith}
use lib.Count.{count_leading_zeros}
use Rattle.spec_angles.proofs.RootByBits.{spare_of, split_of}
use Rattle.angles.proofs.root.by_fours.Goals as goal

pub overflow_sub-spare : goal.overflow_sub-spare
overflow_sub-spare c = omega (arith, spare_of c.args.significand c.requires.0 c.requires.1)

pub returns : goal.returns
returns c =
    rw c.from.ensures
    (split_of c.args.significand c.args.power (count_leading_zeros 32 c.args.significand) (spare_of c.args.significand c.requires.0 c.requires.1)
    c.requires.2 c.requires.3)
