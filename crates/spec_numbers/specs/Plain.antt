-- Plain numbers, with no NaN and no -0: they are equal as data where they are equal in value, so minima and maxima may be taken in any order.
use Rattle.std.specs.Prelude.{◌≡◌, T, Float}
use Rattle.std.specs.Float.{Format}
use Rattle.std.specs.Float.Ieee.{eq, fits}
use Rattle.spec_numbers.specs.Values.{zero, Number}

-- x is a number of the format, and no -0
pub record Plain (f : Format) (x : Float) : Type 0 where
  pub fitting : T (fits f x)
  pub number : Number x
  pub plus : T (eq x zero) → x ≡ zero
