-- Words for floats that the other definitions share: constants, sign, magnitude, a number plus zero, the cut to a whole number.
use Rattle.std.specs.Prelude.{Bool, true, false, not, ℕ, zero as none, suc, ◌-◌, ◌^◌, pos, T, Float}
use Rattle.std.specs.Float.{nan, inf, fin, Format}
use Rattle.std.specs.Float.Ieee.{prec, emax, is_nan, to_unsigned}

-- +0, 1 and 2
abbrev pub zero : Float
zero = fin false 0 (pos 0)

abbrev pub one : Float
one = fin false 1 (pos 0)

abbrev pub two : Float
two = fin false 1 (pos 1)

-- the largest finite number of the format, and the least: minima and maxima begin with them
abbrev pub largest : Format → Float
largest f = fin false (2 ^ prec f - 1) (pos (suc (emax f) - prec f))

abbrev pub least : Format → Float
least f = fin true (2 ^ prec f - 1) (pos (suc (emax f) - prec f))

-- x is no NaN
abbrev pub Number : Float → Type 0
Number x = T (not (is_nan x))

-- the sign: a zero has one too
abbrev pub negative : Float → Bool
negative nan = false
negative (inf s) = s
negative (fin s m e) = s

-- a finite float with the sign clear: a number that is not negative, and not -0
abbrev pub unsigned : Float → Bool
unsigned nan = false
unsigned (inf s) = false
unsigned (fin false m e) = true
unsigned (fin true m e) = false

-- |x|
abbrev pub abs : Float → Float
abs nan = nan
abs (inf s) = inf false
abs (fin s m e) = fin false m e

-- x + 0: itself, with +0 for -0; coordinates are read so
abbrev pub plus_zero : Float → Float
plus_zero nan = nan
plus_zero (inf s) = inf s
plus_zero (fin s none e) = zero
plus_zero (fin s (suc m) e) = fin s (suc m) e

-- x cut to a whole number, as Rust's `as usize` cuts: a NaN and what is below zero to 0, what is too large to the largest
abbrev pub cut : Float → ℕ
cut = to_unsigned 64
