-- Digits, widths and decimal numbers: how long they are, so that the program knows its room, and that a printed decimal reads back.
use mathlib.Core.Path.{◌≡◌, refl, ap, ◌∙◌}
use mathlib.Core.Logic.{◌⊎◌, inl, inr, ⊎_elim}
use mathlib.Core.List.{List, [], ◌∷◌, ◌++◌, append_assoc}
use mathlib.Core.Bool.{Bool, true, false}
use Prim.Native.Nat.{ℕ, zero, suc, ◌+◌, ◌-◌, ◌*◌, ◌/◌, ◌%◌, ◌^◌, ◌≤◌, ◌<◌}
use native.Mathlib.Nat.{pow-suc}
use native.Mathlib.Omega.{arith}
use borrow.Author.Tests.{lt-ltb, le-ltb, ltb-true, ltb-false}
use lib.ListN.{length, length-append}
use lib.Dec.{ltb}
use Rattle.spec_printing.specs.Printed.{digit, digits, width_in, width, decimal}

decided : (b : Bool) → (b ≡ true) ⊎ (b ≡ false)
decided true = inl refl
decided false = inr refl

lt_or_ge : (n m : ℕ) → (n < m) ⊎ (m ≤ n)
lt_or_ge n m = ⊎_elim (λ (e : ltb n m ≡ true). inl (ltb-true n m e)) (λ (e : ltb n m ≡ false). inr (ltb-false n m e)) (decided (ltb n m))

-- the digits 0 to 9, as characters
pub digit_low : (d : ℕ) → d < 10 → digit d ≡ 48 + d
unfolding digit
digit_low d h = rw (lt-ltb d 10 h)

-- the digits from ten on, as characters a to f
pub digit_high : (d : ℕ) → 10 ≤ d → digit d ≡ 87 + d
unfolding digit
digit_high d h = rw (le-ltb d 10 h)

-- as many bytes as digits
pub length_digits : (base k n : ℕ) → length (digits base k n) ≡ k
unfolding digits
length_digits base zero n = refl
length_digits base (suc k) n = simp (length-append, length_digits base k (n / base)) (omega arith)

-- one digit more in front of those that are written, as the loop goes
pub digits_split : (base k n : ℕ) (tail : List ℕ) → digits base (k + 1) n ++ tail ≡ digits base k (n / base) ++ (digit (n % base) ∷ tail)
unfolding digits
digits_split base k n tail =
    let e : k + 1 ≡ suc k = omega arith in
    rw e (append_assoc (digits base k (n / base)) (digit (n % base) ∷ []) tail)

-- ---- the width

-- enough turns give the same
same_width : (f g n : ℕ) → n ≤ f → n ≤ g → width_in f n ≡ width_in g n
unfolding width_in
same_width zero zero n a b = refl
same_width zero (suc g) n a b = let z : n < 10 = omega arith in rw (lt-ltb n 10 z)
same_width (suc f) zero n a b = let z : n < 10 = omega arith in rw (lt-ltb n 10 z)
same_width (suc f) (suc g) n a b =
    ⊎_elim (λ (l : n < 10). rw (lt-ltb n 10 l)) (λ (l : 10 ≤ n). rw (le-ltb n 10 l, same_width f g (n / 10) (omega arith) (omega arith))) (lt_or_ge n 10)

-- a number below ten has one digit
pub width_one : (n : ℕ) → n < 10 → width n ≡ 1
unfolding width_in
width_one zero h = refl
width_one (suc n) h = rw (lt-ltb (suc n) 10 h)

-- any other number has one digit more than its tenth
pub width_more : (n : ℕ) → 10 ≤ n → width n ≡ width (n / 10) + 1
unfolding width_in
width_more zero h = omega arith
width_more (suc n) h =
    let e : (m : ℕ) → suc m ≡ m + 1 = λ m. omega arith in
    rw (le-ltb (suc n) 10 h) (ap suc (same_width n (suc n / 10) (suc n / 10) (omega arith) (omega arith)) ∙ e _)

-- every number has a digit, zero too
pub width_pos : (n : ℕ) → 1 ≤ width n
width_pos n = ⊎_elim (λ (l : n < 10). omega (arith, width_one n l)) (λ (l : 10 ≤ n). omega (arith, width_more n l)) (lt_or_ge n 10)

width_bound : (k turns n : ℕ) → n < 10 ^ suc k → width_in turns n ≤ suc k
unfolding width_in
width_bound k zero n h = omega arith
width_bound zero (suc turns) n h = let l : n < 10 = h in rw (lt-ltb n 10 l) (omega arith)
width_bound (suc k) (suc turns) n h =
    let m : n < 10 ^ suc k * 10 = rw pow-suc at h in
    ⊎_elim (λ (l : n < 10). rw (lt-ltb n 10 l) (omega arith))
    (λ (l : 10 ≤ n). rw (le-ltb n 10 l) (omega (arith, width_bound k turns (n / 10) (omega arith)))) (lt_or_ge n 10)

-- a number of 64 bits has twenty digits at most
pub width_most : (n : ℕ) → n < 2 ^ 64 → width n ≤ 20
width_most n h = width_bound 19 n n (omega arith)

-- ---- reading back

-- the number that decimal digits spell, behind those that were read before
abbrev pub read_on : ℕ → List ℕ → ℕ
read_on sum [] = sum
read_on sum (c ∷ cs) = read_on (10 * sum + (c - 48)) cs

read_behind : (sum : ℕ) (a b : List ℕ) → read_on sum (a ++ b) ≡ read_on (read_on sum a) b
read_behind sum [] b = refl
read_behind sum (c ∷ a) b = read_behind (10 * sum + (c - 48)) a b

digits_back : (k n : ℕ) → n < 10 ^ k → read_on 0 (digits 10 k n) ≡ n
unfolding digits
digits_back zero n h = omega arith
digits_back (suc k) n h =
    let m : n < 10 ^ k * 10 = rw pow-suc at h in
    let d : digit (n % 10) ≡ 48 + n % 10 = digit_low (n % 10) (omega arith) in
    read_behind 0 (digits 10 k (n / 10)) (digit (n % 10) ∷ [])
    ∙ rw (digits_back k (n / 10) (omega arith), d) (omega arith)

width_enough : (turns n : ℕ) → n ≤ turns → n < 10 ^ width_in turns n
unfolding width_in
width_enough zero n h = omega arith
width_enough (suc turns) n h =
    ⊎_elim (λ (l : n < 10). rw (lt-ltb n 10 l) (omega arith))
    (λ (l : 10 ≤ n). rw (le-ltb n 10 l, pow-suc) (omega (arith, width_enough turns (n / 10) (omega arith)))) (lt_or_ge n 10)

-- a number printed in decimal reads back
pub decimal_back : (n : ℕ) → read_on 0 (decimal n) ≡ n
unfolding decimal
decimal_back n = digits_back (width n) n (width_enough n n (omega arith))
