-- The first number at which a test fails, and the refusal there.
use mathlib.Core.Path.{◌≡◌, refl, sym, ap, ◌∙◌}
use mathlib.Core.Bool.{Bool, true, false, cond, true≢false}
use Prim.Native.Nat.{ℕ, zero, suc, ◌+◌, ◌≤◌, ◌<◌}
use native.Mathlib.Omega.{arith}
use native.Mathlib.Decide.{dec_lt}
use borrow.Author.Count.{below_more}
use borrow.Author.Tests.{le-ltb, ltb-true, ltb-false}
use lib.Dec.{ltb}
use Rattle.spec_lists.specs.Refusals.{Verdict, passes, refused}
use Rattle.spec_lists.proofs.Verdicts.{test_has, not_refused}
use Rattle.spec_tree.specs.Reasons.{failing_from, first_failing, refused_where}

-- of a verdict: where it refuses, it tells this number, and a place of at most so much
abbrev pub Tells : (which most : ℕ) → Verdict → Type 0
Tells which most passes = Unit {0}
Tells which most (refused number place) = (number ≡ which) × (place ≤ most)

module _ (test : ℕ → Bool) where
  -- ---- from a number on
  from_least : (more k : ℕ) → k ≤ failing_from test k more
  unfolding failing_from
  from_least zero k = omega arith
  from_least (suc more) k = go (test k) (from_least more (suc k))
    where
      go : (a : Bool) → suc k ≤ failing_from test (suc k) more → k ≤ cond a (failing_from test (suc k) more) k
      go true h = omega arith
      go false h = omega arith

  from_most : (more k : ℕ) → failing_from test k more ≤ k + more
  unfolding failing_from
  from_most zero k = omega arith
  from_most (suc more) k = go (test k) (from_most more (suc k))
    where
      go : (a : Bool) → failing_from test (suc k) more ≤ suc k + more → cond a (failing_from test (suc k) more) k ≤ k + suc more
      go true h = omega arith
      go false h = omega arith

  -- it holds of all that stand before the first at which it fails
  from_holds : (more k j : ℕ) → k ≤ j → j < failing_from test k more → test j ≡ true
  unfolding failing_from
  from_holds zero k j low high = absurd (omega arith)
  from_holds (suc more) k j low high = go (test k) refl (dec_lt k j) high (from_holds more (suc k) j)
    where
      go : (a : Bool) → test k ≡ a → Dec (k < j) → j < cond a (failing_from test (suc k) more) k
          → (suc k ≤ j → j < failing_from test (suc k) more → test j ≡ true) → test j ≡ true
      go false p d h later = absurd (omega arith)
      go true p (yes b) h later = later (omega arith) h
      go true p (no b) h later = let same : j ≡ k = omega arith in ap test same ∙ p

  -- and fails there
  from_fails : (more k : ℕ) → failing_from test k more < k + more → test (failing_from test k more) ≡ false
  unfolding failing_from
  from_fails zero k h = absurd (omega arith)
  from_fails (suc more) k h = go (test k) refl h (from_fails more (suc k))
    where
      go : (a : Bool) → test k ≡ a → cond a (failing_from test (suc k) more) k < k + suc more
          → (failing_from test (suc k) more < suc k + more → test (failing_from test (suc k) more) ≡ false)
          → test (cond a (failing_from test (suc k) more) k) ≡ false
      go false p b later = p
      go true p b later = later (omega arith)

  -- ---- from zero on
  module _ (count : ℕ) where
    -- it is no further than the numbers that are asked
    failing_most : first_failing test count ≤ count
    failing_most = omega (arith, from_most count 0)

    -- the test holds before it: the place is the first
    pub before_holds : (j : ℕ) → j < first_failing test count → test j ≡ true
    before_holds j h = from_holds count 0 j (omega arith) h

    -- and fails at it, where it is one of them
    failing_fails : first_failing test count < count → test (first_failing test count) ≡ false
    failing_fails h = from_fails count 0 (omega arith)

    -- where it is none of them, the test holds of all
    all_hold : first_failing test count ≡ count → (k : ℕ) → k < count → test k ≡ true
    all_hold e k h = before_holds k (omega arith)

    -- how a loop that found none ends
    pub none_fails : ((k : ℕ) → k < count → test k ≡ true) → first_failing test count ≡ count
    none_fails all = go (dec_lt (first_failing test count) count)
      where
        go : Dec (first_failing test count < count) → first_failing test count ≡ count
        go (no b) = omega (arith, failing_most)
        go (yes b) = absurd (true≢false (sym (all _ b) ∙ failing_fails b))

    -- how a loop that stands at the first ends
    pub fails_at : (k : ℕ) → ((j : ℕ) → j < k → test j ≡ true) → k < count → test k ≡ false → first_failing test count ≡ k
    fails_at k before here fails = go (dec_lt (first_failing test count) k) (dec_lt k (first_failing test count))
      where
        go : Dec (first_failing test count < k) → Dec (k < first_failing test count) → first_failing test count ≡ k
        go (yes b) d = absurd (true≢false (sym (before _ b) ∙ failing_fails (omega arith)))
        go (no b) (yes c) = absurd (true≢false (sym (before_holds k c) ∙ fails))
        go (no b) (no c) = omega arith

    -- ---- the refusal there
    module _ (number : ℕ) where
      -- a test that holds of all refuses nothing
      pub where_passes : ((k : ℕ) → k < count → test k ≡ true) → refused_where number test count ≡ passes
      unfolding refused_where
      where_passes all = rw (none_fails all, le-ltb count count (omega arith))

      -- and where nothing is refused, the test holds of all
      pub where_passed : refused_where number test count ≡ passes → (k : ℕ) → k < count → test k ≡ true
      unfolding refused_where
      where_passed e =
          all_hold (omega (arith, failing_most, ltb-false (first_failing test count) count (not_refused _ number _ e)))

      -- what holds where it refuses, which is at one of the numbers that are asked, and the first at which it fails
      pub where_has : (P : Verdict → Type 0) → P passes → (first_failing test count < count → P (refused number (first_failing test count)))
          → P (refused_where number test count)
      unfolding refused_where
      where_has P ok h =
          test_has P ok (ltb (first_failing test count) count) number (first_failing test count) (λ e. h (ltb-true (first_failing test count) count e))

-- ---- one number more is asked
module _ (test : ℕ → Bool) (k first : ℕ) (e : first ≡ first_failing test k) where
  -- what was found before stays the first
  pub one_found : first < k → first ≡ first_failing test (k + 1)
  one_found h =
      sym (fails_at test (k + 1) first (λ (j : ℕ) (b : j < first). before_holds test k j (omega arith)) (omega arith)
      (ap test e ∙ failing_fails test k (omega arith)))

  -- where the test held of all, it is asked of this one: it holds here too
  pub one_holds : k ≤ first → test k ≡ true → k + 1 ≡ first_failing test (k + 1)
  one_holds h here =
      sym (none_fails test (k + 1) (below_more (λ (j : ℕ). test j ≡ true) k (all_hold test k (omega (arith, failing_most test k))) here))

  -- or it fails here first
  pub one_fails : k ≤ first → test k ≡ false → k ≡ first_failing test (k + 1)
  one_fails h here = sym (fails_at test (k + 1) k (all_hold test k (omega (arith, failing_most test k))) (omega arith) here)
