-- Of plain numbers, with no NaN and no -0, two are equal as data where neither is above the other. So the smaller and the larger of two
-- don't depend on their order, nor those of three on their grouping: boxes may be joined in any order.
use mathlib.Core.Path.{◌≡◌, sym, subst, ◌∙◌}
use Prim.Native.Nat.{zero as none, suc}
use mathlib.Core.Bool.{Bool, true, false, not, cond}
use lib.Dec.{T}
use lib.Ieee.{Float, nan, inf, fin, Format, binary32, binary64, is_nan, lt, le, eq, fits}
use Rattle.spec_numbers.specs.Values.{zero, largest, least, Number, plus_zero}
use Rattle.spec_numbers.specs.Hold.{smaller, larger}
use Rattle.spec_numbers.specs.Plain.{Plain}
use Rattle.spec_numbers.proofs.Order.{transitive, antisymmetric}
use Rattle.spec_numbers.proofs.Hold.{larger_first, larger_second, larger_least, smaller_first, smaller_second, smaller_greatest}
use Rattle.spec_numbers.proofs.Unique.{unique, signs_agree}
use Rattle.spec_numbers.proofs.PlusZero.{plus_zero_no_minus_zero}

-- ---- the ends of a format's finite numbers
-- the number that minima begin with is plain
pub largest_number_plain : (f : Format) → Plain f (largest f)
unfolding fits eq is_nan
largest_number_plain binary32 = record { fitting = tt; number = tt; plus = λ h. absurd h }
largest_number_plain binary64 = record { fitting = tt; number = tt; plus = λ h. absurd h }

-- the number that maxima begin with is plain
pub least_number_plain : (f : Format) → Plain f (least f)
unfolding fits eq is_nan
least_number_plain binary32 = record { fitting = tt; number = tt; plus = λ h. absurd h }
least_number_plain binary64 = record { fitting = tt; number = tt; plus = λ h. absurd h }

-- ---- the smaller and the larger
module _ (f : Format) where
  plain_antisymmetric : (x y : Float) → Plain f x → Plain f y → T (le x y) → T (le y x) → x ≡ y
  plain_antisymmetric x y P Q h k = go (eq x zero) (λ (e : T (eq x zero)). e) (λ (n : T (not (eq x zero))). n)
    where
      go : (b : Bool) → (T b → T (eq x zero)) → (T (not b) → T (not (eq x zero))) → x ≡ y
      go true is other =
          let x0 = P.plus (is tt) in
          x0 ∙ sym (Q.plus (antisymmetric y zero (subst (λ (z : Float). T (le y z)) x0 k) (subst (λ (z : Float). T (le z y)) x0 h)))
      go false is other = unique f x y P.fitting Q.fitting (antisymmetric x y h k) (signs_agree x y (antisymmetric x y h k) (other tt))

  picked_plain : (b : Bool) (x y : Float) → Plain f x → Plain f y → Plain f (cond b x y)
  picked_plain true x y P Q = P
  picked_plain false x y P Q = Q

  module _ (a b : Float) (A : Plain f a) (B : Plain f b) where
    -- the smaller of plain numbers is plain
    pub smaller_plain : Plain f (smaller a b)
    smaller_plain = picked_plain (lt b a) b a B A

    -- the larger of plain numbers is plain
    pub larger_plain : Plain f (larger a b)
    larger_plain = picked_plain (lt a b) b a B A

  module _ (a b : Float) (A : Plain f a) (B : Plain f b) where
    -- the smaller of two does not depend on their order, as it would for +0 and -0
    pub smaller_comm : smaller a b ≡ smaller b a
    smaller_comm =
        plain_antisymmetric _ _ (smaller_plain a b A B) (smaller_plain b a B A)
        (smaller_greatest b a _ (smaller_second a b A.number B.number) (smaller_first a b A.number))
        (smaller_greatest a b _ (smaller_second b a B.number A.number) (smaller_first b a B.number))

    -- the larger of two does not depend on their order
    pub larger_comm : larger a b ≡ larger b a
    larger_comm =
        plain_antisymmetric _ _ (larger_plain a b A B) (larger_plain b a B A)
        (larger_least a b _ (larger_second b a B.number A.number) (larger_first b a B.number))
        (larger_least b a _ (larger_second a b A.number B.number) (larger_first a b A.number))

  module _ (a b c : Float) (A : Plain f a) (B : Plain f b) (C : Plain f c) where
    -- the smallest of three does not depend on their grouping
    pub smaller_assoc : smaller (smaller a b) c ≡ smaller a (smaller b c)
    smaller_assoc =
        let ab = smaller a b in
        let bc = smaller b c in
        let AB = smaller_plain a b A B in
        let BC = smaller_plain b c B C in
        let l = smaller ab c in
        let r = smaller a bc in
        let l_ab : T (le l ab) = smaller_first ab c AB.number in
        let r_bc : T (le r bc) = smaller_second a bc A.number BC.number in
        plain_antisymmetric l r (smaller_plain ab c AB C) (smaller_plain a bc A BC)
        (smaller_greatest a bc l (transitive l ab a l_ab (smaller_first a b A.number))
        (smaller_greatest b c l (transitive l ab b l_ab (smaller_second a b A.number B.number)) (smaller_second ab c AB.number C.number)))
        (smaller_greatest ab c r (smaller_greatest a b r (smaller_first a bc A.number) (transitive r bc b r_bc (smaller_first b c B.number)))
        (transitive r bc c r_bc (smaller_second b c B.number C.number)))

    -- the largest of three does not depend on their grouping
    pub larger_assoc : larger (larger a b) c ≡ larger a (larger b c)
    larger_assoc =
        let ab = larger a b in
        let bc = larger b c in
        let AB = larger_plain a b A B in
        let BC = larger_plain b c B C in
        let l = larger ab c in
        let r = larger a bc in
        let ab_l : T (le ab l) = larger_first ab c AB.number in
        let bc_r : T (le bc r) = larger_second a bc A.number BC.number in
        plain_antisymmetric l r (larger_plain ab c AB C) (larger_plain a bc A BC)
        (larger_least ab c r (larger_least a b r (larger_first a bc A.number) (transitive b bc r (larger_first b c B.number) bc_r))
        (transitive c bc r (larger_second b c B.number C.number) bc_r))
        (larger_least a bc l (transitive a ab l (larger_first a b A.number) ab_l)
        (larger_least b c l (transitive b ab l (larger_second a b A.number B.number) ab_l) (larger_second ab c AB.number C.number)))

-- ---- a number of the format, plus zero, is plain
plus_zero_fits : (f : Format) (x : Float) → T (fits f x) → T (fits f (plus_zero x))
unfolding fits
plus_zero_fits f nan h = tt
plus_zero_fits f (inf s) h = tt
plus_zero_fits f (fin s none e) h = tt
plus_zero_fits f (fin s (suc m) e) h = h

plus_zero_number : (x : Float) → Number x → Number (plus_zero x)
unfolding is_nan
plus_zero_number (inf s) h = tt
plus_zero_number (fin s none e) h = tt
plus_zero_number (fin s (suc m) e) h = tt
plus_zero_number nan h = elim h [ ]

-- so every coordinate that is read is plain
pub plus_zero_plain : (f : Format) (x : Float) → T (fits f x) → Number x → Plain f (plus_zero x)
plus_zero_plain f x h n = record { fitting = plus_zero_fits f x h; number = plus_zero_number x n; plus = plus_zero_no_minus_zero x }
