-- How far a word is, where the product of its number and four need not fit.
use mathlib.Core.Path.{◌≡◌}
use Prim.Native.Nat.{ℕ, ◌*◌, ◌-◌, ◌^◌, min}
use native.Mathlib.Omega.{arith}
use Rattle.std.proofs.lemmas.Bool.Decides.{nat_tests}
use Rattle.test_words.specs.Words.{more}

-- a step that does not fit a word is as good as any that is too large
pub saturated : (n i : ℕ) → more n (min (i * 4) (2 ^ 64 - 1)) ≡ more n (4 * i)
unfolding more
saturated n i = grind (arith, nat_tests)
