-- The arc tangent in units: on the line between two entries of the table, and at its end the last entry. So an arc is at most an eighth of a
-- turn and an angle at most half a turn, which keeps the program's differences, products and sums within its words.
use mathlib.Core.Path.{◌≡◌, refl, ◌∙◌, sym}
use mathlib.Core.Bool.{Bool, true, false}
use Prim.Native.Nat.{ℕ, ◌+◌, ◌-◌, ◌*◌, ◌/◌, ◌%◌, ◌^◌, ◌≤◌, ◌<◌}
use native.Mathlib.Nat.{le_trans, le_of_eq, mul-le-mul, mul-le-mul_left, lt_of_le_of_lt}
use native.Mathlib.Decide.{dec_lt}
use native.Mathlib.Omega.{arith}
use lib.Dec.{eqb, eqb→eq, not_T, lit<, lit≤}
use lib.Ieee.{Float, Format, lt}
use lib.Ieee.Fits.{eq→eqb}
use lib.Ieee.Bits.{is_true, is_false}
use Rattle.spec_numbers.specs.Values.{zero}
use Rattle.spec_angles.specs.Table.{entry}
use Rattle.spec_angles.specs.Angle.{arc, eighth_turn, quarter_turn, half_turn, mirrored, steep, ratio, in_units, angle, Askable}
use Rattle.spec_angles.proofs.Steps.{step, entry_most, entry_1024}
use Rattle.spec_angles.proofs.Ratio.{ratio_at_most_one}
use Rattle.spec_angles.proofs.InUnits.{in_units_few}

-- the largest argument takes the last entry: there is no line behind it
pub at_the_end : (u : ℕ) → u / 2 ^ 20 ≡ 1024 → entry 1024 ≡ arc u
unfolding arc
at_the_end u h = rw (is_true (eqb (u / 2 ^ 20) 1024) (eq→eqb h)) refl

-- before the end, a and b are the entry k and the next
module _ (u a b : ℕ) (few : u ≤ 2 ^ 30) (inside : u / 2 ^ 20 ≡ 1024 → ⊥) (p : a ≡ entry (u / 2 ^ 20)) (q : b ≡ entry (u / 2 ^ 20 + 1)) where
  under : u / 2 ^ 20 < 1024
  under = omega arith

  -- the table rises, so the program's difference of two entries does not go below zero
  pub rises : a < b
  rises = rw (p, q) (step (u / 2 ^ 20) under).rises

  most : b ≤ eighth_turn
  most = rw q (entry_most (u / 2 ^ 20 + 1) (omega (arith, under)))

  product : (b - a) * (u % 2 ^ 20) ≤ (b - a) * 2 ^ 20
  product = mul-le-mul_left (b - a) (omega arith)

  -- the step times the rest fits the program's 64 bits
  pub product_fits : (b - a) * (u % 2 ^ 20) < 2 ^ 64
  product_fits = lt_of_le_of_lt (mul-le-mul {n₂ = eighth_turn} {m₂ = 2 ^ 20} (omega (arith, most)) (omega arith)) (lit< tt)

  -- a point on the line is at most the last entry, so the program's sum does not overflow
  pub line_most : a + (b - a) * (u % 2 ^ 20) / 2 ^ 20 ≤ eighth_turn
  line_most = omega (arith, product, most, rises)

  -- before the end, the line between the two entries is the arc as defined
  pub on_the_line : a + (b - a) * (u % 2 ^ 20) / 2 ^ 20 ≡ arc u
  unfolding arc
  on_the_line = rw (is_false (eqb (u / 2 ^ 20) 1024) (not_T (eqb (u / 2 ^ 20) 1024) (λ t. inside (eqb→eq (u / 2 ^ 20) 1024 t))), p, q) refl

-- an arc is at most an eighth of a turn, since its argument is at most 1
pub arc_most : (u : ℕ) → u ≤ 2 ^ 30 → arc u ≤ eighth_turn
arc_most u few = go (dec_lt (u / 2 ^ 20) 1024)
  where
    go : Dec (u / 2 ^ 20 < 1024) → arc u ≤ eighth_turn
    go (yes l) =
        let n : u / 2 ^ 20 ≡ 1024 → ⊥ = λ e. omega arith in
        le_trans (le_of_eq (sym (on_the_line u _ _ few n refl refl))) (line_most u _ _ few n refl refl)
    go (no g) = le_of_eq (sym (at_the_end u (omega arith)) ∙ entry_1024)

-- ---- the turns
-- an angle taken back from a turn stays within that turn
pub mirrored_most : (turn : ℕ) (back : Bool) (a : ℕ) → a ≤ turn → mirrored turn back a ≤ turn
unfolding mirrored
mirrored_most turn true a h = omega arith
mirrored_most turn false a h = h

-- an angle is at most half a turn, which bounds the solid angle of a triangle
pub angle_most : (f : Format) (n d : Float) → Askable n d → angle f n d ≤ half_turn
unfolding angle
angle_most f n d k =
    let u = in_units (ratio f n d) in
    let a = arc_most u (in_units_few f (ratio f n d) (ratio_at_most_one f n d k)) in
    let q = mirrored_most quarter_turn (steep n d) (arc u) (le_trans a (lit≤ tt)) in
    mirrored_most half_turn (lt d zero) (mirrored quarter_turn (steep n d) (arc u)) (le_trans q (lit≤ tt))
