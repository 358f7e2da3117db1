-- The arc tangent of two numbers over whole numbers: a table, and a straight line between its entries. The recipe is exact up to one rounding, so
-- every machine gives the same bits.
use Rattle.std.specs.Prelude.{Bool, not, ◌&&◌, cond, ℕ, ◌+◌, ◌-◌, ◌*◌, ◌/◌, ◌%◌, ◌^◌, ◌≤◌, ◌<◌, T, eqb, Float}
use Rattle.std.specs.Float.{nan, Format}
use Rattle.std.specs.Float.Ieee.{lt, eq, div, round, fits}
use Rattle.std.specs.Float.Ieee.Scale.{finite}
use Rattle.std.specs.Float.Ieee.Positive.{num, den}
use Rattle.spec_numbers.specs.Values.{zero, abs, unsigned}
use Rattle.spec_angles.specs.Table.{entry}

-- ---- the table
-- The step D from the entry x at k to the next, y, is no more than one off the bounds that the slope 1 / (1 + t²) gives it at the two ends:
-- (D - 1) (2 ^ 20 + k²) ≤ 2 ^ 40 ≤ (D + 1) (2 ^ 20 + (k + 1)²). And it is above zero.
abbrev pub low_side : (k x y : ℕ) → ℕ
low_side k x y = (y - x - 1) * (2 ^ 20 + k * k)

abbrev pub high_side : (k x y : ℕ) → ℕ
high_side k x y = (y - x + 1) * (2 ^ 20 + (k + 1) * (k + 1))

pub record Step (k : ℕ) : Type 0 where
  pub rises : entry k < entry (k + 1)
  pub most : low_side k (entry k) (entry (k + 1)) ≤ 2 ^ 40
  pub least : 2 ^ 40 ≤ high_side k (entry k) (entry (k + 1))

-- ---- the angle, in units of 2 ^ -30
-- the arc tangent of u units, for a u up to 2 ^ 30: the entry k, and of the step to the next the share f / 2 ^ 20, cut
unfoldable pub arc : ℕ → ℕ
arc u =
    let k = u / 2 ^ 20 in
    let f = u % 2 ^ 20 in
    cond (eqb k 1024) (entry 1024) (entry k + (entry (k + 1) - entry k) * f / 2 ^ 20)

-- whether the numerator n is the larger in magnitude
abbrev pub steep : (n d : Float) → Bool
steep n d = lt (abs d) (abs n)

-- the smaller magnitude over the larger, rounded
unfoldable pub ratio : Format → (n d : Float) → Float
ratio f n d = cond (steep n d) (div f (abs d) (abs n)) (div f (abs n) (abs d))

-- t * 2 ^ 30, cut to a whole number
abbrev pub in_units : Float → ℕ
in_units t = num t * 2 ^ 30 / den t

-- an eighth of a turn, which is the last entry, a quarter and a half
abbrev pub eighth_turn : ℕ
eighth_turn = 843314857

abbrev pub quarter_turn : ℕ
quarter_turn = 1686629713

abbrev pub half_turn : ℕ
half_turn = 3373259426

-- an angle taken back from a turn where `back` holds: the table covers an eighth of a turn, and mirrors give the rest
unfoldable pub mirrored : (turn : ℕ) → Bool → ℕ → ℕ
mirrored turn back a = cond back (turn - a) a

-- the angle's size before it is rounded
unfoldable pub angle : Format → (n d : Float) → ℕ
angle f n d = mirrored half_turn (lt d zero) (mirrored quarter_turn (steep n d) (arc (in_units (ratio f n d))))

-- rounded once, to the format's binary digits, ties to even, times 2 ^ -30, with the numerator's sign
unfoldable pub arc_tangent : Format → (n d : Float) → Float
arc_tangent f n d = round f (lt n zero) (angle f n d) (2 ^ 30)

-- ---- what may be asked
-- finite numbers, the numerator not zero
pub record Askable (n d : Float) : Type 0 where
  pub above : T (finite n)
  pub under : T (finite d)
  pub some : T (not (eq n zero))

abbrev pub askable : (n d : Float) → Bool
askable n d = finite n && finite d && not (eq n zero)

-- the arc tangent, and a NaN where it may not be asked for
unfoldable pub angle_or_nan : Format → (n d : Float) → Float
angle_or_nan f n d = cond (askable n d) (arc_tangent f n d) nan

-- what the table needs of the ratio: a number from 0 to 1 that the format holds
pub record AtMostOne (f : Format) (t : Float) : Type 0 where
  pub holds : T (fits f t)
  pub is_unsigned : T (unsigned t)
  pub most : num t ≤ den t
