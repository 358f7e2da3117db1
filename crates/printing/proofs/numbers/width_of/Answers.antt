-- `printing::numbers::width_of` meets its contract: one digit more than the whole part of the logarithm, and 0 has as many as 1.
use mathlib.Core.Path.{◌≡◌, sym, ◌∙◌}
use Prim.Native.Nat.{ℕ, zero, suc, max, ◌+◌, ◌*◌, ◌/◌, ◌^◌, ◌≤◌, ◌<◌}
use native.Mathlib.Nat.{pow-suc}
use native.Mathlib.Omega.{arith}
use Rattle.spec_printing.specs.Printed.{width}
use Rattle.spec_printing.proofs.Numbers.{width_one, width_more}
use Rattle.printing.proofs.numbers.width_of.Goals as goal

-- the digits of a number from one power of ten up to the next
width_between : (k n : ℕ) → 10 ^ k ≤ n → n < 10 * 10 ^ k → width n ≡ k + 1
width_between zero n low high = omega (arith, width_one n high)
width_between (suc k) n low high =
    let from : 10 ^ k * 10 ≤ n = rw pow-suc at low in
    let below : n < 10 * (10 ^ k * 10) = rw pow-suc at high in
    omega (arith, width_more n (omega arith), width_between k (n / 10) (omega arith) (omega arith))

width_least : (n : ℕ) → width (max n 1) ≡ width n
width_least zero = width_one 1 (omega arith) ∙ sym (width_one 0 (omega arith))
width_least (suc n) = let same : max (suc n) 1 ≡ suc n = omega arith in rw same

pub returns : goal.returns
returns c =
    let log = c.ilog10 in
    let digits = width_between log.result c.max.result log.ensures.power_le log.ensures.next_power_gt in
    (sym (rw c.max.ensures at digits) ∙ width_least c.args.n, omega arith)
