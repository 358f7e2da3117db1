-- What a choice comes to in each branch.
use mathlib.Core.Path.{◌≡◌, refl, sym}
use mathlib.Core.Bool.{Bool, true, false, cond, true≢false}

-- a branch that is taken answers the first choice
pub when : {A : Type 0} (b : Bool) (x y : A) → b ≡ true → x ≡ cond b x y
when true x y e = refl
when false x y e = absurd (true≢false (sym e))

-- a branch that is not taken answers the second choice
pub unless : {A : Type 0} (b : Bool) (x y : A) → b ≡ false → y ≡ cond b x y
unless true x y e = absurd (true≢false e)
unless false x y e = refl
