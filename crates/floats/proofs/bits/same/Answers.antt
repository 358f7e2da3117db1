-- `floats::bits::same` meets its contract: numbers of a format are the same where their patterns are.
use Rattle.std.proofs.Common.{eqb, ◌∙◌}
use lib.Ieee.{binary32}
use Rattle.spec_numbers.proofs.Tests.{passed}
use Rattle.spec_numbers.proofs.Same.{patterns_same}
use Rattle.floats.proofs.bits.same.Goals as goal

pub returns : goal.returns
returns c =
    (λ i. eqb (c.bits_of.ensures i) (c.bits_of-2.ensures i))
    ∙ patterns_same binary32 c.args.a c.args.b (passed c.well_formed.0.1) (passed c.well_formed.1.0.1)
