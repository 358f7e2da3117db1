-- A rounded sum grows with each of its terms. Infinities are included as far as the sums are no NaN,
-- which those of terms that are not below zero never are: squared distances are such sums.
use mathlib.Core.Path.{◌≡◌, refl}
use mathlib.Core.Bool.{Bool, true, false, not, cond}
use Prim.Native.Nat.{ℕ, ◌+◌, ◌-◌, ◌*◌, ◌≤◌, ◌<◌}
use native.Mathlib.Nat.{mul-pos, mul-le-mul_right, add-mul}
use native.Mathlib.Omega.{arith}
use lib.Dec.{T, ltb, ltb→lt, nltb→le}
use lib.Ieee.{Float, inf, fin, Format, binary32, binary64, is_nan, up, down, round, sum, add, le, nan}
use lib.Ieee.Scale.{finite}
use Rattle.spec_numbers.specs.Values.{zero, Number}
use Rattle.spec_numbers.proofs.Fraction.{Fraction, value, AtMost, spread, den_above_zero, compared}
use Rattle.spec_numbers.proofs.Order.{least, greatest, reflexive, transitive, number_left, finite_number}
use Rattle.spec_numbers.proofs.Rounding.{Rounded, rounding_keeps_order}

-- ---- the exact sum, and that `sum` rounds it
abbrev pub plus : Fraction → Fraction → Fraction
plus a b = record { over = a.over * b.den + b.over * a.den; under = a.under * b.den + b.under * a.den; den = a.den * b.den }

there : (p y q x z w : ℕ) → (p * y + q * x) * (z * w) ≡ p * z * (y * w) + q * w * (x * z)
there p y q x z w = omega arith

back : (m w t z x y : ℕ) → (m * w + t * z) * (x * y) ≡ m * x * (y * w) + t * y * (x * z)
back m w t z x y = omega arith

-- from (p - n) / x ≤ (r - m) / z and (q - o) / y ≤ (s - t) / w
grows : (p n x q o y r m z s t w : ℕ) → p * z + m * x ≤ r * x + n * z → q * w + t * y ≤ s * y + o * w
    → (p * y + q * x) * (z * w) + (m * w + t * z) * (x * y) ≤ (r * w + s * z) * (x * y) + (n * y + o * x) * (z * w)
grows p n x q o y r m z s t w h k =
    rw (there p y q x z w, back m w t z x y, back r w s z x y, there n y o x z w)
    (omega (arith, simp add-mul at (mul-le-mul_right (y * w) h), simp add-mul at (mul-le-mul_right (x * z) k)))

plus_keeps_order : (a b c d : Fraction) → AtMost a c → AtMost b d → AtMost (plus a b) (plus c d)
plus_keeps_order a b c d = grows a.over a.under a.den b.over b.under b.den c.over c.under c.den d.over d.under d.den

abbrev exact : Bool → ℕ → Bool → ℕ → ℕ → Fraction
exact s a t b c = record { over = cond s 0 a + cond t 0 b; under = cond s a 0 + cond t b 0; den = c }

sum_rounds : (f : Format) (s : Bool) (a : ℕ) (t : Bool) (b c : ℕ) → Rounded f (exact s a t b c) (sum f s a t b c)
unfolding sum
sum_rounds f false a false b c = record { sign = false; size = a + b; is = refl; says = omega arith }
sum_rounds f true a true b c = record { sign = true; size = a + b; is = refl; says = omega arith }
sum_rounds f false a true b c = go (ltb a b) (ltb→lt a b) (nltb→le a b)
  where
    go : (x : Bool) → (T x → a < b) → (T (not x) → b ≤ a) → Rounded f (exact false a true b c) (cond x (round f true (b - a) c) (round f false (a - b) c))
    go true h k = let l : a < b = h tt in record { sign = true; size = b - a; is = refl; says = omega arith }
    go false h k = let l : b ≤ a = k tt in record { sign = false; size = a - b; is = refl; says = omega arith }
sum_rounds f true a false b c = go (ltb a b) (ltb b a) (ltb→lt a b) (nltb→le a b) (ltb→lt b a) (nltb→le b a)
  where
    go : (x y : Bool) → (T x → a < b) → (T (not x) → b ≤ a) → (T y → b < a) → (T (not y) → a ≤ b)
        → Rounded f (exact true a false b c) (cond x (round f false (b - a) c) (round f y (a - b) c))
    go true y h k i j = let l : a < b = h tt in record { sign = false; size = b - a; is = refl; says = omega arith }
    go false true h k i j = let l : b < a = i tt in record { sign = true; size = a - b; is = refl; says = omega arith }
    go false false h k i j = let l : b ≤ a = k tt in let r : a ≤ b = j tt in record { sign = false; size = a - b; is = refl; says = omega arith }

-- a sum of finite floats is the exact sum, rounded once
pub add_rounds : (f : Format) (x y : Float) → T (finite x) → T (finite y) → Rounded f (plus (value x) (value y)) (add f x y)
unfolding add
add_rounds f (fin s m e) (fin t n d) h k =
    let r : Rounded f (exact s (m * up e * down d) t (n * up d * down e) (down e * down d))
    (sum f s (m * up e * down d) t (n * up d * down e) (down e * down d)) =
    sum_rounds f s (m * up e * down d) t (n * up d * down e) (down e * down d) in
    record { sign = r.sign; size = r.size; is = r.is; says = omega (arith, spread s (m * up e) (down d), spread t (n * up d) (down e), r.says) }
add_rounds f nan y h k = elim h [ ]
add_rounds f (inf _) y h k = elim h [ ]
add_rounds f (fin s m e) nan h k = elim k [ ]
add_rounds f (fin s m e) (inf _) h k = elim k [ ]

-- ---- a sum grows with its terms
-- larger terms make a sum that is no smaller, though it is rounded
pub finite_add_keeps_order : (f : Format) (a b c d : Float) → T (finite a) → T (finite b) → T (finite c) → T (finite d) → T (le a c) → T (le b d)
    → T (le (add f a b) (add f c d))
finite_add_keeps_order f a b c d A B C D h k =
    rounding_keeps_order (mul-pos (den_above_zero a) (den_above_zero b)) (mul-pos (den_above_zero c) (den_above_zero d)) (add_rounds f a b A B)
    (add_rounds f c d C D)
    (plus_keeps_order (value a) (value b) (value c) (value d) ((compared a c A C).le→at_most h) ((compared b d B D).le→at_most k))

-- an infinity decides a sum that is no NaN
add_lowest : (f : Format) (y : Float) → Number (add f (inf true) y) → add f (inf true) y ≡ inf true
unfolding add is_nan
add_lowest f (inf true) h = refl
add_lowest f (fin t n d) h = refl
add_lowest f nan h = elim h [ ]
add_lowest f (inf false) h = elim h [ ]

add_highest : (f : Format) (y : Float) → Number (add f (inf false) y) → add f (inf false) y ≡ inf false
unfolding add is_nan
add_highest f (inf false) h = refl
add_highest f (fin t n d) h = refl
add_highest f nan h = elim h [ ]
add_highest f (inf true) h = elim h [ ]

add_keeps_order : (f : Format) (a b c d : Float) → T (le a c) → T (le b d) → Number (add f a b) → Number (add f c d) → T (le (add f a b) (add f c d))
unfolding add le
add_keeps_order f (inf true) b c d h k p q = rw (add_lowest f b p) (least (add f c d) q)
add_keeps_order f (inf false) b (inf false) d h k p q = rw (add_highest f d q) (greatest (add f (inf false) b) p)
add_keeps_order f (fin s m g) b (inf false) d h k p q = rw (add_highest f d q) (greatest (add f (fin s m g) b) p)
add_keeps_order f (fin s m g) (inf true) (fin t n e) d h k p q = least (add f (fin t n e) d) q
add_keeps_order f (fin s m g) (inf false) (fin t n e) (inf false) h k p q = tt
add_keeps_order f (fin s m g) (fin r l j) (fin t n e) (inf false) h k p q = greatest (add f (fin s m g) (fin r l j)) p
add_keeps_order f (fin s m g) (fin r l j) (fin t n e) (fin u o i) h k p q =
    finite_add_keeps_order f (fin s m g) (fin r l j) (fin t n e) (fin u o i) tt tt tt tt h k
add_keeps_order f nan b c d h k p q = elim h [ ]
add_keeps_order f (inf false) b nan d h k p q = elim h [ ]
add_keeps_order f (inf false) b (inf true) d h k p q = elim h [ ]
add_keeps_order f (inf false) b (fin t n e) d h k p q = elim h [ ]
add_keeps_order f (fin s m g) b nan d h k p q = elim h [ ]
add_keeps_order f (fin s m g) b (inf true) d h k p q = elim h [ ]
add_keeps_order f (fin s m g) nan (fin t n e) d h k p q = elim k [ ]
add_keeps_order f (fin s m g) (inf false) (fin t n e) nan h k p q = elim k [ ]
add_keeps_order f (fin s m g) (inf false) (fin t n e) (inf true) h k p q = elim k [ ]
add_keeps_order f (fin s m g) (inf false) (fin t n e) (fin u o i) h k p q = elim k [ ]
add_keeps_order f (fin s m g) (fin r l j) (fin t n e) nan h k p q = elim k [ ]
add_keeps_order f (fin s m g) (fin r l j) (fin t n e) (inf true) h k p q = elim k [ ]

-- a sum of finite floats is no NaN
pub add_number : (f : Format) (x y : Float) → T (finite x) → T (finite y) → Number (add f x y)
add_number f x y X Y = number_left _ _ (finite_add_keeps_order f _ _ _ _ X Y X Y (reflexive _ (finite_number _ X)) (reflexive _ (finite_number _ Y)))

-- ---- terms that are not below zero
sum_number : (f : Format) (a b : Float) → T (le zero a) → T (le zero b) → Number (add f a b)
unfolding add le is_nan
sum_number f (inf false) (inf false) h k = tt
sum_number f (inf false) (fin t n d) h k = tt
sum_number f (fin s m e) (inf t) h k = tt
sum_number f (fin s m e) (fin t n d) h k = add_number f (fin s m e) (fin t n d) tt tt
sum_number f nan b h k = elim h [ ]
sum_number f (inf false) nan h k = elim k [ ]
sum_number f (inf false) (inf true) h k = elim k [ ]
sum_number f (inf true) b h k = elim h [ ]
sum_number f (fin s m e) nan h k = elim k [ ]

-- sums of terms that are not below zero grow with them, to infinity too: distances grow with what they add up
pub sum_keeps_order : (f : Format) (a b c d : Float) → T (le zero a) → T (le zero b) → T (le a c) → T (le b d) → T (le (add f a b) (add f c d))
sum_keeps_order f a b c d p q h k = add_keeps_order f _ _ _ _ h k (sum_number f _ _ p q) (sum_number f _ _ (transitive _ _ _ p h) (transitive _ _ _ q k))

zero_and_zero : (f : Format) → add f zero zero ≡ zero
unfolding add
zero_and_zero binary32 = refl
zero_and_zero binary64 = refl

-- a sum of terms that are not below zero is not below zero
pub sum_not_below : (f : Format) (a b : Float) → T (le zero a) → T (le zero b) → T (le zero (add f a b))
sum_not_below f a b h k =
    rw (zero_and_zero f) at (sum_keeps_order f zero zero a b (reflexive zero (finite_number zero tt)) (reflexive zero (finite_number zero tt)) h k)
