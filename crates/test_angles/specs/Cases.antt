-- The cases of the list: our answer, theirs, and whether the two are near enough.
use Rattle.std.specs.Prelude.{ℕ, ◌+◌, ◌/◌, Bool, false, cond, ◌&&◌, ◌||◌, List, ◌==◌, from_bits, nat_le, nat_lt, to_bits, Float}
use Rattle.std.specs.Float.{binary32}
use Rattle.std.specs.Float.Ieee.{sub, mul, le, ne}
use Rattle.spec_numbers.specs.Values.{abs, cut}
use Rattle.spec_shapes.specs.Triangles.{Triangle}
use Rattle.spec_angles.specs.Root.{root_or_nan}
use Rattle.spec_angles.specs.Angle.{angle_or_nan}
use Rattle.spec_angles.specs.Winding.{solid_angle}
use Rattle.test_angles.specs.Words.{word_at, number_at, place, point_at}

pub record Compared : Type 0 where
  pub right : Bool
  pub ours : Float
  pub theirs : ℕ

-- how many words a case of a kind takes: 0 is a root, 1 an angle, any other a solid angle
unfoldable pub words_of : (kind : ℕ) → ℕ
words_of kind = cond (kind == 0) 2 (cond (kind == 1) 4 13)

-- within `most` of each other, or both a NaN
unfoldable pub near : (ours theirs most : Float) → Bool
near ours theirs most = le (abs (sub binary32 ours theirs)) most || (ne ours ours && ne theirs theirs)

-- right where ours is equal to theirs bit for bit
unfoldable pub root_case : List ℕ → ℕ → Compared
root_case s at =
    let ours = root_or_nan binary32 (number_at s at) in
    let theirs = word_at s (place at 1 1) in
    record { right = (to_bits binary32 ours == theirs); ours = ours; theirs = theirs }

-- theirs is a size in units of 2 ^ -30, of which 1024 are 2 ^ -20, and `below` is 1 where it is below zero
unfoldable pub near_units : (ours : Float) (units below : ℕ) → Bool
near_units ours units below =
    let found = cut (mul binary32 (abs ours) (from_bits binary32 0x4e80_0000)) in
    cond (nat_lt 4294967295 found) false (nat_le found (units + 1024) && nat_le units (found + 1024) && to_bits binary32 ours / 0x8000_0000 == below)

unfoldable pub angle_case : List ℕ → ℕ → Compared
angle_case s at =
    let ours = angle_or_nan binary32 (number_at s at) (number_at s (place at 1 1)) in
    let units = word_at s (place at 1 2) in
    record { right = near_units ours units (word_at s (place at 1 3)); ours = ours; theirs = units }

unfoldable pub triangle_of : List ℕ → ℕ → Triangle
triangle_of s at = record { a = point_at s at; b = point_at s (place at 1 3); c = point_at s (place at 1 6) }

-- right where ours is within 2 ^ -19 of theirs
unfoldable pub solid_case : List ℕ → ℕ → Compared
solid_case s at =
    let ours = solid_angle binary32 (triangle_of s at) (point_at s (place at 1 9)) in
    let theirs = word_at s (place at 1 12) in
    record { right = near ours (from_bits binary32 theirs) (from_bits binary32 0x3600_0000); ours = ours; theirs = theirs }

unfoldable pub case_at : List ℕ → (kind at : ℕ) → Compared
case_at s kind at = cond (kind == 0) (root_case s at) (cond (kind == 1) (angle_case s at) (solid_case s at))
