-- `printing::numbers::put_digits` meets its contract: a turn stores one digit more, right in front of the others (`Backwards`).
use native.Mathlib.Omega.{arith}
use Prim.Native.Nat.{◌-◌}
use Rattle.spec_printing.proofs.Backwards.{back_start, back_more, back_end}
use Rattle.printing.proofs.numbers.put_digits.Goals as goal

pub loop-k-init : goal.loop-k-init
loop-k-init c =
    let a = c.args in
    back_start a.base a.at a.count a.n a.out.now

pub loop-k-preserved : goal.loop-k-preserved
loop-k-preserved c =
    let a = c.args in
    back_more a.base a.at a.count a.n a.out.now _ c.loop-k.k c.loop-k.rest _ (c.loop-k.k - 1) c.requires.count_in_bounds (omega arith)
    c.digit_of.ensures c.loop-k.invariant

pub returns-clause-put : goal.returns-clause-put
returns-clause-put c =
    let a = c.args in
    back_end a.base a.at a.count a.n a.out.now _ c.loop-k.k c.loop-k.rest c.requires.count_in_bounds c.loop-k-test.false c.loop-k.invariant
