-- A rounded square is no NaN and not below zero, and it grows with the magnitude of what is squared. The square of an infinity is infinite.
use mathlib.Core.Path.{◌≡◌, refl}
use mathlib.Core.Bool.{Bool, true, false}
use Prim.Native.Nat.{ℕ, ◌*◌, ◌≤◌}
use native.Mathlib.Nat.{mul-pos, mul-le-mul, mul-le-mul_right, mul-mul-mul_comm}
use native.Mathlib.Omega.{arith}
use lib.Dec.{T}
use lib.IntN.{ℤ}
use lib.Ieee.{Float, nan, inf, fin, Format, is_nan, up, down, round, neg, mul, le}
use lib.Ieee.Fits.{down_pos}
use lib.Ieee.Order.{round_mono}
use Rattle.spec_numbers.specs.Values.{zero, abs, Number}
use Rattle.spec_numbers.proofs.Fraction.{signed, AtMost, compared}
use Rattle.spec_numbers.proofs.Order.{greatest, number_right, finite_number, transitive}
use Rattle.spec_numbers.proofs.Rounding.{round_not_below, neg_reverses}

-- ---- what a square is
square_of_infinity : (f : Format) (s : Bool) → mul f (inf s) (inf s) ≡ inf false
unfolding mul
square_of_infinity f false = refl
square_of_infinity f true = refl

square_is : (f : Format) (s : Bool) (m : ℕ) (e : ℤ) → mul f (fin s m e) (fin s m e) ≡ round f false (m * up e * (m * up e)) (down e * down e)
unfolding mul
square_is f false m e = refl
square_is f true m e = refl

-- the square of a number is not below zero, so it is no NaN
pub square_not_below : (f : Format) (x : Float) → Number x → T (le zero (mul f x x))
unfolding is_nan
square_not_below f (inf s) h = rw (square_of_infinity f s) (unfold le in tt)
square_not_below f (fin s m e) h = rw (square_is f s m e) (round_not_below f (m * up e * (m * up e)) (down e * down e) (mul-pos (down_pos e) (down_pos e)))
square_not_below f nan h = elim h [ ]

square_number : (f : Format) (x : Float) → Number x → Number (mul f x x)
square_number f x h = number_right zero (mul f x x) (square_not_below f x h)

-- ---- it grows with the magnitude
grows : (a c b d : ℕ) → AtMost (signed false a c) (signed false b d) → a * a * (d * d) ≤ b * b * (c * c)
grows a c b d h =
    let k : a * d ≤ b * c = omega arith in
    rw (mul-mul-mul_comm a a d d, mul-mul-mul_comm b b c c) (mul-le-mul k k)

-- a larger magnitude has a square that is no smaller: what is farther off on an axis adds no less
pub square_keeps_order : (f : Format) (x y : Float) → T (le (abs x) (abs y)) → T (le (mul f x x) (mul f y y))
unfolding le
square_keeps_order f (inf s) (inf t) h = rw (square_of_infinity f s, square_of_infinity f t) tt
square_keeps_order f (fin s m e) (inf t) h =
    rw (square_of_infinity f t) (greatest (mul f (fin s m e) (fin s m e)) (square_number f (fin s m e) (finite_number (fin s m e) tt)))
square_keeps_order f (fin s m e) (fin t n d) h =
    rw (square_is f s m e, square_is f t n d)
    (round_mono f (m * up e * (m * up e)) (down e * down e) (n * up d * (n * up d)) (down d * down d) (mul-pos (down_pos e) (down_pos e))
    (mul-pos (down_pos d) (down_pos d))
    (grows (m * up e) (down e) (n * up d) (down d) ((compared (fin false m e) (fin false n d) tt tt).le→at_most h)))
square_keeps_order f nan y h = elim h [ ]
square_keeps_order f (inf s) nan h = elim h [ ]
square_keeps_order f (inf s) (fin t n d) h = elim h [ ]
square_keeps_order f (fin s m e) nan h = elim h [ ]

-- ---- magnitudes grow away from zero, up and down
sizes : (s : Bool) (a c : ℕ) (t : Bool) (b d : ℕ) → AtMost (signed false 0 1) (signed s a c) → AtMost (signed s a c) (signed t b d)
    → AtMost (signed false a c) (signed false b d)
sizes false a c false b d h k = k
sizes false a c true b d h k = omega arith
sizes true a c false b d h k = let z : a ≤ 0 = omega arith in omega (arith, mul-le-mul_right d z)
sizes true a c true b d h k = let z : a ≤ 0 = omega arith in omega (arith, mul-le-mul_right d z)

-- from zero upward the magnitude grows
pub abs_grows_upward : (x y : Float) → T (le zero x) → T (le x y) → T (le (abs x) (abs y))
unfolding le
abs_grows_upward (inf false) (inf t) h k = tt
abs_grows_upward (fin s m e) (inf t) h k = tt
abs_grows_upward (fin s m e) (fin t n d) h k =
    (compared (fin false m e) (fin false n d) tt tt).at_most→le
    (sizes s (m * up e) (down e) t (n * up d) (down d) ((compared zero (fin s m e) tt tt).le→at_most h) ((compared (fin s m e) (fin t n d) tt tt).le→at_most k))
abs_grows_upward nan y h k = elim h [ ]
abs_grows_upward (inf false) nan h k = elim k [ ]
abs_grows_upward (inf false) (fin t n d) h k = elim k [ ]
abs_grows_upward (inf true) y h k = elim h [ ]
abs_grows_upward (fin s m e) nan h k = elim k [ ]

abs_neg : (x : Float) → abs (neg x) ≡ abs x
unfolding neg
abs_neg nan = refl
abs_neg (inf s) = refl
abs_neg (fin s m e) = refl

-- from zero downward the magnitude grows
pub abs_grows_downward : (x y : Float) → T (le x zero) → T (le y x) → T (le (abs x) (abs y))
abs_grows_downward x y h k =
    rw (abs_neg x, abs_neg y) at (abs_grows_upward (neg x) (neg y) (transitive zero (neg zero) (neg x) (unfold neg le in
    tt) (neg_reverses x zero h)) (neg_reverses y x k))
