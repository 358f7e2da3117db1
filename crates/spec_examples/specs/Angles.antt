-- E8 and E9: roots of binary32, and angles in units of 2 ^ -30 before they are rounded.
use Rattle.std.specs.Prelude.{cond, List, [], ◌∷◌, ℕ, ℤ, pos, negsuc, neg_ℤ, Float}
use Rattle.std.specs.Float.{Format, binary32}
use Rattle.std.specs.Float.Ieee.{lt, of_bits, of_int}
use Rattle.spec_numbers.specs.Values.{zero}
use Rattle.spec_angles.specs.Root.{root}
use Rattle.spec_angles.specs.Angle.{angle}
use Rattle.spec_examples.specs.Table.{Example, row, whole}

abbrev pub root_row : ℕ → ℕ → Example
root_row x r = row (root binary32 (of_bits binary32 x) ∷ []) (of_bits binary32 r ∷ [])

abbrev pub e8_two : Example
e8_two = root_row 0x4000_0000 0x3fb5_04f3

abbrev pub e8_least : Example
e8_least = root_row 0x0000_0001 0x1a35_04f3

module _ (f : Format) where
  -- with the numerator's sign
  abbrev pub signed_angle : Float → Float → ℤ
  signed_angle n d = cond (lt n zero) (neg_ℤ (pos (angle f n d))) (pos (angle f n d))

  abbrev pub angle_row : ℤ → ℤ → ℤ → Example
  angle_row n d given = record { worked = whole (signed_angle (of_int f n) (of_int f d)) ∷ []; given = whole given ∷ [] }

  abbrev pub e9_behind : Example
  e9_behind = angle_row (pos 1) (negsuc 0) (pos 2529944569)

  abbrev pub e9_straight_down : Example
  e9_straight_down = angle_row (negsuc 0) (pos 0) (neg_ℤ (pos 1686629713))

  abbrev pub angle_examples : List Example
  angle_examples = e8_two ∷ e8_least ∷ e9_behind ∷ e9_straight_down ∷ []
