-- `dipoles::far::term_or_nan` meets its contract: the length that is compared is that of the difference either way round.
use lib.Ieee.{of_bits, div}
use Rattle.spec_dipoles.proofs.Far.{far_taken, far_left}
use Rattle.dipoles.proofs.far.term_or_nan.Goals as goal

pub returns-then-d-accuracy : goal.returns-then-d-accuracy
returns-then-d-accuracy c =
    far_taken _ _ _ _ _ _ _ c.minus-r.ensures c.dot-r2.ensures c.root_or_nan-r1.ensures _ c.if-d-accuracy.true
    c.term_by.ensures

pub returns : goal.returns
unfolding of_bits div
returns c =
    far_left _ _ _ _ _ _ _ c.minus-r.ensures c.dot-r2.ensures c.root_or_nan-r1.ensures c.if-d-accuracy.false
