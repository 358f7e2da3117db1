-- `test_angles::words::place` meets its contract: the product of two numbers below 2 ^ 14 is below 2 ^ 28.
use Rattle.std.proofs.Common.{◌≡◌, ℕ, ◌*◌, ◌<◌, ◌≤◌, true, ◌&&◌, ltb, le_of_lt, mul-le-mul, arith, ltb→lt, le-ltb, lt-ltb}
use lib.Ieee.Fits.{and_l, and_r}
use Rattle.spec_numbers.proofs.Tests.{passed}
use Rattle.test_angles.specs.Words.{place}
use Rattle.test_angles.proofs.words.place.Goals as goal

small : (at size i : ℕ) → (ltb at 16384 && ltb size 16384 && ltb i 16384) ≡ true → (at < 16384) × (size * i ≤ 16384 * 16384)
small at size i h =
    let a = ltb at 16384 in
    let b = ltb size 16384 in
    let d = ltb i 16384 in
    let t = passed h in (
      ltb→lt at 16384 (and_l a b (and_l (a && b) d t)),
      mul-le-mul (le_of_lt (ltb→lt size 16384 (and_r a b (and_l (a && b) d t)))) (le_of_lt (ltb→lt i 16384 (and_r (a && b) d t))),
    )

pub overflow_mul-found : goal.overflow_mul-found
overflow_mul-found c = omega (arith, small c.args.at c.args.size c.args.i c.if-at-size.true)

pub overflow_add-found : goal.overflow_add-found
overflow_add-found c = omega (arith, small c.args.at c.args.size c.args.i c.if-at-size.true)

pub returns-then-found-lt16384 : goal.returns-then-found-lt16384
unfolding place
returns-then-found-lt16384 c = rw (c.if-at-size.true, lt-ltb _ _ c.if-found-lt16384.true)

pub returns-else-found-lt16384 : goal.returns-else-found-lt16384
unfolding place
returns-else-found-lt16384 c = rw (c.if-at-size.true, le-ltb _ _ c.if-found-lt16384.false)

pub returns-else-at-size : goal.returns-else-at-size
unfolding place
returns-else-at-size c = rw c.if-at-size.false
