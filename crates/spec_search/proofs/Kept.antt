-- What the source's walk keeps as a plain hit is compared as the answer that it stands for.
use mathlib.Core.Path.{◌≡◌, refl, sym}
use mathlib.Core.Bool.{Bool, true, false, true≢false}
use lib.Ieee.{Float, nan, inf, fin, lt, eq}
use Rattle.spec_search.specs.Answers.{Hit, nothing, found}
use Rattle.spec_search.specs.Source.{smallest, keep_smaller}
use Rattle.spec_search.specs.Kept.{kept, kept_if}

-- what is below anything is not infinite: a hit there stands for itself
pub below_is_finite : (x y : Float) → lt x y ≡ true → eq x (inf false) ≡ false
unfolding lt eq
below_is_finite nan y h = refl
below_is_finite (inf true) y h = refl
below_is_finite (inf false) nan h = absurd (true≢false (sym h))
below_is_finite (inf false) (inf s) h = absurd (true≢false (sym h))
below_is_finite (inf false) (fin s m k) h = absurd (true≢false (sym h))
below_is_finite (fin s m k) y h = refl

infinite_is : (x : Float) → eq x (inf false) ≡ true → x ≡ inf false
unfolding eq
infinite_is nan e = absurd (true≢false (sym e))
infinite_is (inf true) e = absurd (true≢false (sym e))
infinite_is (inf false) e = refl
infinite_is (fin s m k) e = absurd (true≢false (sym e))

smallest_if : (b : Bool) (k : Hit) → eq k.squared (inf false) ≡ b → smallest (kept_if b k) ≡ k.squared
smallest_if true k e = sym (infinite_is k.squared e)
smallest_if false k e = refl

-- a hit at an infinite squared distance stands for nothing
pub stands_nothing : (h : Hit) → eq h.squared (inf false) ≡ true → nothing ≡ kept h
unfolding kept
stands_nothing h e = rw e

-- a hit at any other squared distance stands for itself
pub stands_found : (h : Hit) → eq h.squared (inf false) ≡ false → found h ≡ kept h
unfolding kept
stands_found h e = rw e

found_kept : (h : Hit) (x : Float) → lt h.squared x ≡ true → kept h ≡ found h
unfolding kept
found_kept h x l = simp (below_is_finite h.squared x l)

-- ---- what is kept once h is measured
module _ (h k new : Hit) where
  -- a strictly smaller hit takes the place of what was kept
  pub kept_smaller : lt h.squared k.squared ≡ true → new ≡ h → kept new ≡ keep_smaller h (kept k)
  unfolding keep_smaller kept
  kept_smaller t e = rw (smallest_if (eq k.squared (inf false)) k refl, t, e) (found_kept h k.squared t)

module _ (h k : Hit) where
  -- a hit that is not strictly smaller leaves what was kept
  pub kept_no_smaller : lt h.squared k.squared ≡ false → kept k ≡ keep_smaller h (kept k)
  unfolding keep_smaller kept
  kept_no_smaller t = rw (smallest_if (eq k.squared (inf false)) k refl, t)
