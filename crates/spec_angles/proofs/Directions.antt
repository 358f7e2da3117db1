-- Over its computed length, where that is not zero, a bounded vector has coordinates of at most 2 in magnitude (`direction_within`).
-- For this its squared length has a root, and is not below the square of any coordinate.
use mathlib.Core.Path.{◌≡◌, refl, ap}
use mathlib.Core.Bool.{Bool, true, false, not}
use Prim.Native.Nat.{ℕ, zero, suc, ◌+◌, ◌*◌, ◌^◌, ◌≤◌, ◌<◌}
use native.Mathlib.Nat.{le_trans, le_of_eq, mul-pos, mul-one, one-mul, zero-mul, zero-add, mul_assoc, mul-le-mul_right, le_of_mul-le-mul_right}
use native.Mathlib.Omega.{arith}
use lib.IntN.{ℤ}
use lib.Dec.{T, lit≤, eqb-suc-zero}
use lib.Pow.{pow_pos}
use lib.Ieee.{Float, fin, Format, emax, low, up, down, round, add, mul, div, le, eq, fits, inf, nan}
use lib.Ieee.Fits.{down_pos, round-fits, add-fits}
use lib.Ieee.Bits.{is_true}
use lib.Ieee.Order.{round_mono}
use lib.Ieee.Positive.{num, den, den_pos, positive, positive_of_value, value→cross}
use lib.Ieee.Scale.{finite}
use Rattle.spec_numbers.specs.Values.{zero as +0, unsigned}
use Rattle.spec_numbers.specs.Axes.{Axis, X, Y, Z}
use Rattle.spec_numbers.proofs.Fraction.{compared}
use Rattle.spec_numbers.proofs.Exact.{plus_zero_lem, rounds_to_itself}
use Rattle.spec_numbers.proofs.Sum.{sum_keeps_order}
use Rattle.spec_shapes.specs.Points.{Point, on, dot}
use Rattle.spec_shapes.proofs.Within.{dot_of_differences}
use Rattle.spec_angles.specs.Root.{rootable, root, root_or_nan, IsRoot}
use Rattle.spec_angles.specs.Winding.{norm}
use Rattle.spec_angles.proofs.RootLaw.{units_of}
use Rattle.spec_angles.proofs.Root.{root_is_nearest}
use Rattle.spec_numbers.proofs.Within.{Within, Whole, unsigned_finite, power_whole, round_within, round_finite, add_within, mul_within, le_says, value_is_unsigned, some_magnitude, wide}
use Rattle.spec_angles.proofs.Length.{two_to, at_most_twice}

-- ---- numbers that are not below zero
unsigned_not_below : (x : Float) → T (unsigned x) → T (le +0 x)
unsigned_not_below (fin false m e) h = (compared +0 (fin false m e) tt tt).at_most→le (omega arith)
unsigned_not_below nan h = elim h [ ]
unsigned_not_below (inf _) h = elim h [ ]
unsigned_not_below (fin true m e) h = elim h [ ]

square_is : (f : Format) (x : Float) → T (finite x) → mul f x x ≡ round f false (num x * num x) (den x * den x)
unfolding mul
square_is f (fin false m e) h = refl
square_is f (fin true m e) h = refl
square_is f nan h = elim h [ ]
square_is f (inf _) h = elim h [ ]

square_unsigned : (f : Format) (x : Float) → T (finite x) → T (finite (mul f x x)) → T (unsigned (mul f x x))
square_unsigned f x k h = rw (square_is f x k) (round_finite f (num x * num x) (den x * den x) (rw (square_is f x k) at h))

add_unsigned : (f : Format) (x y : Float) → T (unsigned x) → T (unsigned y) → T (finite (add f x y)) → T (unsigned (add f x y))
unfolding add
add_unsigned f (fin false m e) (fin false n d) p q h = round_finite f (m * up e * down d + n * up d * down e) (down e * down d) h
add_unsigned f nan y p q h = elim p [ ]
add_unsigned f (inf _) y p q h = elim p [ ]
add_unsigned f (fin false m e) nan p q h = elim q [ ]
add_unsigned f (fin false m e) (inf _) p q h = elim q [ ]
add_unsigned f (fin false m e) (fin true n d) p q h = elim q [ ]
add_unsigned f (fin true m e) y p q h = elim p [ ]

-- ---- a sum is not below a value that a term is not below
zero_plus : (f : Format) (m : ℕ) (e : ℤ) → T (fits f (fin false (suc m) e)) → add f +0 (fin false (suc m) e) ≡ fin false (suc m) e
unfolding add
zero_plus f m e h = simp (zero-mul, zero-add, mul-one, one-mul) (rounds_to_itself f false m e h)

module _ (f : Format) where
  first_kept : (y p q : Float) → T (positive y) → T (fits f y) → T (unsigned p) → T (unsigned q) → T (le y p) → T (le y (add f p q))
  first_kept (fin false zero e) p q P F Up Uq h = absurd P
  first_kept (fin false (suc m) e) p q P F Up Uq h =
      rw (plus_zero_lem f (fin false (suc m) e) F) at
      (sum_keeps_order f (fin false (suc m) e) +0 p q (unsigned_not_below (fin false (suc m) e) tt) (unsigned_not_below +0 tt) h (unsigned_not_below q Uq))
  first_kept nan p q P F Up Uq h = elim P [ ]
  first_kept (inf _) p q P F Up Uq h = elim P [ ]
  first_kept (fin true _ e) p q P F Up Uq h = elim P [ ]

  second_kept : (y p q : Float) → T (positive y) → T (fits f y) → T (unsigned p) → T (unsigned q) → T (le y q) → T (le y (add f p q))
  second_kept (fin false zero e) p q P F Up Uq h = absurd P
  second_kept (fin false (suc m) e) p q P F Up Uq h =
      rw (zero_plus f m e F) at
      (sum_keeps_order f +0 (fin false (suc m) e) p q (unsigned_not_below +0 tt) (unsigned_not_below (fin false (suc m) e) tt) (unsigned_not_below p Up) h)
  second_kept nan p q P F Up Uq h = elim P [ ]
  second_kept (inf _) p q P F Up Uq h = elim P [ ]
  second_kept (fin true _ e) p q P F Up Uq h = elim P [ ]

-- ---- a quotient
twice_whole : (f : Format) → Whole f 2
twice_whole f = power_whole f 1 (le_trans (lit≤ tt) (wide f))

quotient_within : (f : Format) (x l : Float) → T (finite x) → T (unsigned l) → 0 < num l → num x * den l ≤ 2 * num l * den x → Within 2 (div f x l)
unfolding div
quotient_within f (fin t m e) (fin false zero d) k L s h = absurd (omega arith)
quotient_within f (fin t m e) (fin false (suc n) d) k L s h =
    rw (eqb-suc-zero n) (round_within f _ (m * up e * down d) (suc n * up d * down e) 2 (mul-pos s (down_pos e)) (twice_whole f)
    (le_trans h (le_of_eq (mul_assoc 2 (suc n * up d) (down e)))))
quotient_within f nan l k L s h = elim k [ ]
quotient_within f (inf _) l k L s h = elim k [ ]
quotient_within f (fin t m e) nan k L s h = elim L [ ]
quotient_within f (fin t m e) (inf _) k L s h = elim L [ ]
quotient_within f (fin t m e) (fin true _ d) k L s h = elim L [ ]

-- ---- a magnitude in units
either_sign : (f : Format) (s : Bool) (m : ℕ) (e : ℤ) → T (fits f (fin s m e)) → T (fits f (fin false m e))
unfolding fits
either_sign f s zero e h = h
either_sign f s (suc m) e h = h

in_whole_units : (f : Format) (x : Float) → T (finite x) → T (fits f x) → (N : ℕ) × (num x * 2 ^ low f ≡ N * den x)
in_whole_units f (fin s m e) h F =
    let u = units_of f (fin false m e) (either_sign f s m e F) tt in
    (u.digits * 2 ^ u.places, u.is)
in_whole_units f nan h F = elim h [ ]
in_whole_units f (inf _) h F = elim h [ ]

unsigned_rootable : (x : Float) → T (unsigned x) → T (rootable x)
unsigned_rootable (fin false m e) h = tt
unsigned_rootable nan h = elim h [ ]
unsigned_rootable (inf _) h = elim h [ ]
unsigned_rootable (fin true m e) h = elim h [ ]

-- ---- the squared length
module _ (f : Format) (a : Point) (A : (i : Axis) → Within (2 ^ 21) (on i a)) where
  square_within : (i : Axis) → Within (2 ^ 42) (mul f (on i a) (on i a))
  square_within i = mul_within f (2 ^ 21) (2 ^ 21) (on i a) (on i a) (power_whole f 42 (le_trans (lit≤ tt) (wide f))) (A i) (A i)

  plain_square : (i : Axis) → T (unsigned (mul f (on i a) (on i a)))
  plain_square i = square_unsigned f (on i a) (A i).is_finite (square_within i).is_finite

  two_within : Within (2 ^ 43) (add f (mul f (on X a) (on X a)) (mul f (on Y a) (on Y a)))
  two_within = add_within f (2 ^ 42) (2 ^ 42) _ _ (power_whole f 43 (le_trans (lit≤ tt) (wide f))) (square_within X) (square_within Y)

  plain_two : T (unsigned (add f (mul f (on X a) (on X a)) (mul f (on Y a) (on Y a))))
  plain_two = add_unsigned f _ _ (plain_square X) (plain_square Y) two_within.is_finite

  squared_within : Within (2 ^ 44) (dot f a a)
  squared_within = dot_of_differences f a a A A

  squared_unsigned : T (unsigned (dot f a a))
  unfolding dot
  squared_unsigned = add_unsigned f _ _ plain_two (plain_square Z) squared_within.is_finite

  kept : (i : Axis) (y : Float) → T (positive y) → T (fits f y) → T (le y (mul f (on i a) (on i a))) → T (le y (dot f a a))
  unfolding dot
  kept X y P F h = first_kept f y _ _ P F plain_two (plain_square Z) (first_kept f y _ _ P F (plain_square X) (plain_square Y) h)
  kept Y y P F h = first_kept f y _ _ P F plain_two (plain_square Z) (second_kept f y _ _ P F (plain_square X) (plain_square Y) h)
  kept Z y P F h = second_kept f y _ _ P F plain_two (plain_square Z) h

  grows : (i : Axis) (k : ℕ) → k < low f + suc (emax f) → 2 ^ k * (den (on i a) * den (on i a)) ≤ num (on i a) * num (on i a) * 2 ^ low f
      → 2 ^ k * den (dot f a a) ≤ num (dot f a a) * 2 ^ low f
  grows i k h g =
      let x = on i a in
      let y = round f false (2 ^ k) (2 ^ low f) in
      let v = two_to f k h in
      let c = value→cross y (2 ^ k) (2 ^ low f) v in
      let b : T (le y (mul f x x)) = rw (square_is f x (A i).is_finite)
      (round_mono f (2 ^ k) (2 ^ low f) (num x * num x) (den x * den x) (pow_pos (low f)) (mul-pos (den_pos x) (den_pos x)) g) in
      let m = le_says y (dot f a a) (value_is_unsigned y (2 ^ k) (2 ^ low f) v) squared_unsigned
      (kept i y (positive_of_value y (2 ^ k) (2 ^ low f) v (pow_pos k)) (round-fits f false (2 ^ k) (2 ^ low f)) b) in
      le_of_mul-le-mul_right (omega (arith, mul-le-mul_right (2 ^ low f) m, ap (λ (z : ℕ). z * den (dot f a a)) c)) (den_pos y)

  -- ---- the norm
  squared_fits : T (fits f (dot f a a))
  unfolding dot
  squared_fits = add-fits f _ _

  norm_is : norm f a ≡ root f (dot f a a)
  unfolding norm root_or_nan
  norm_is = rw (is_true (rootable (dot f a a)) (unsigned_rootable (dot f a a) squared_unsigned))

  norm_is_root : IsRoot f (dot f a a) (norm f a)
  norm_is_root = rw norm_is (root_is_nearest f (dot f a a) squared_fits (unsigned_rootable (dot f a a) squared_unsigned))

  -- a direction's coordinates are at most 2 in magnitude, which bounds the products of a solid angle
  pub direction_within : ((i : Axis) → T (fits f (on i a))) → T (not (eq (norm f a) +0)) → (i : Axis) → Within 2 (div f (on i a) (norm f a))
  direction_within F n i =
      let x = on i a in
      let l = norm f a in
      let u = in_whole_units f x (A i).is_finite (F i) in
      let s = some_magnitude l (unsigned_finite l norm_is_root.is_unsigned) n in
      quotient_within f x l (A i).is_finite norm_is_root.is_unsigned s
      (at_most_twice f (dot f a a) l squared_fits squared_unsigned norm_is_root s (num x) (den x) u.0 21 (den_pos x) u.1 (A i).most
      (le_trans (lit≤ tt) (wide f)) (grows i))
