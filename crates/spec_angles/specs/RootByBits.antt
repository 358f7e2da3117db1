-- The steps by which the program finds the root of a binary32 from its bits: units, digits and scale, the nearest whole root.
use Rattle.std.specs.Prelude.{◌≡◌, cond, ℕ, ◌+◌, ◌-◌, ◌*◌, ◌/◌, ◌%◌, ◌^◌, ◌≤◌, ◌<◌, ltb}
use Rattle.spec_angles.specs.Root.{Near}

-- the number, in units of 2 ^ -149, that the bits of a binary32 with the sign clear stand for
abbrev pub units_of : ℕ → ℕ
units_of b = cond (ltb b (2 ^ 23)) b ((2 ^ 23 + b % 2 ^ 23) * 2 ^ (b / 2 ^ 23 - 1))

-- r is the root of n to the nearest whole number, for an n of 47 or 48 binary digits: so r has 24, or is 2 ^ 24
pub record NearestRoot (n r : ℕ) : Type 0 where
  pub least : 2 ^ 23 ≤ r
  pub most : r ≤ 2 ^ 24
  pub near : Near n r

-- significand * 2 ^ power is digits * 4 ^ scale, with 47 or 48 binary digits in front: there is only one such pair
pub record InFours (significand power digits scale : ℕ) : Type 0 where
  pub least : 2 ^ 46 ≤ digits
  pub most : digits < 2 ^ 48
  pub few : scale < 200
  pub same : digits * (2 ^ scale * 2 ^ scale) ≡ significand * 2 ^ power

-- the same for n units of 2 ^ -149, times 2 ^ 149: in units, the root of n is the root of n * 2 ^ 149
abbrev pub Scaled : (n digits scale : ℕ) → Type 0
Scaled n digits scale = InFours n 149 digits scale
