-- A row of tests passes exactly where each of them passes, and one test exactly where its condition fails.
-- A test that refuses reports its own number and place.
use mathlib.Core.Path.{◌≡◌, refl, sym, ap, ◌∙◌}
use mathlib.Core.Bool.{Bool, true, false, not, true≢false}
use mathlib.Core.List.{List, [], ◌∷◌, ◌++◌}
use Prim.Native.Nat.{ℕ}
use native.Mathlib.Omega.{arith}
use Rattle.spec_numbers.proofs.Tests.{passed, failed}
use Rattle.spec_lists.specs.Refusals.{Verdict, passes, refused, refuses, first_refusal, refused_if, after_verdict}

never_both : (n p : ℕ) → refused n p ≡ passes → ⊥
never_both n p e = let z : ◌≡◌ {A = ℕ} 0 1 = cc in omega arith

-- ---- a row of tests
-- each test of the row passes
abbrev pub AllPass : List Verdict → Type 0
AllPass [] = Unit {0}
AllPass (test ∷ tests) = (test ≡ passes) × AllPass tests

-- where the row passes, each of its tests does
pub all_pass : (tests : List Verdict) → first_refusal tests ≡ passes → AllPass tests
unfolding first_refusal
all_pass [] e = tt
all_pass (passes ∷ tests) e = (refl, all_pass tests e)
all_pass (refused n p ∷ tests) e = absurd (never_both n p e)

-- where each test passes, the row does
pub then_passes : (tests : List Verdict) → AllPass tests → first_refusal tests ≡ passes
unfolding first_refusal
then_passes [] h = refl
then_passes (passes ∷ tests) h = then_passes tests h.1
then_passes (refused n p ∷ tests) h = absurd (never_both n p h.0)

-- ---- what holds of a verdict that passes, and of each test that refuses, holds of a row: what numbers and places a call can tell
module _ (P : Verdict → Type 0) (ok : P passes) where
  -- it holds of a test, if it holds where the test refuses
  pub test_has : (b : Bool) (number place : ℕ) → (b ≡ true → P (refused number place)) → P (refused_if b number place)
  test_has true number place h = h refl
  test_has false number place h = ok

  -- it holds of a row of none
  pub row_ends : P (first_refusal [])
  unfolding first_refusal
  row_ends = ok

  -- and of a row whose first test it holds of, and, once that passed, of the others
  pub row_has : (test : Verdict) (tests : List Verdict) → P test → (test ≡ passes → P (first_refusal tests)) → P (first_refusal (test ∷ tests))
  unfolding first_refusal
  row_has passes tests h k = k refl
  row_has (refused number place) tests h k = h

-- ---- tests made in turn, as code makes them: b says whether the answer v refuses
-- a test that refuses stops the row: its answer is the row's
pub stops : (v test : Verdict) (tests : List Verdict) (b : Bool) → v ≡ test → b ≡ refuses v → b ≡ true → v ≡ first_refusal (test ∷ tests)
unfolding first_refusal
stops passes test tests b e r t = absurd (passed (sym r ∙ t))
stops (refused n p) test tests b e r t = rw (← e)

-- a test that passes leaves the answer to the rest of the row
pub goes_on : (v test : Verdict) (tests : List Verdict) (b : Bool) (rest : Verdict) → v ≡ test → b ≡ refuses v → b ≡ false → rest ≡ first_refusal tests
    → rest ≡ first_refusal (test ∷ tests)
unfolding first_refusal
goes_on passes test tests b rest e r t k = rw (← e) k
goes_on (refused n p) test tests b rest e r t k = absurd (failed (sym r ∙ t))

-- the last test answers for the row
pub ends : (v test : Verdict) → v ≡ test → v ≡ first_refusal (test ∷ [])
unfolding first_refusal
ends passes test e = rw (← e)
ends (refused n p) test e = rw (← e)

-- a test that was made and does not refuse passes
pub did_pass : (v test : Verdict) (b : Bool) → v ≡ test → b ≡ refuses v → b ≡ false → test ≡ passes
did_pass v test b e r f = sym e ∙ go v (sym r ∙ f)
  where
    go : (v : Verdict) → refuses v ≡ false → v ≡ passes
    go passes h = refl
    go (refused number place) h = absurd (true≢false h)

-- ---- a row of tests that is written `a.or(b).or(c)`: each step adds one test behind the row
first_of_two : (tests : List Verdict) (test : Verdict) → first_refusal (first_refusal tests ∷ test ∷ []) ≡ first_refusal (tests ++ test ∷ [])
unfolding first_refusal
first_of_two [] test = refl
first_of_two (passes ∷ tests) test = first_of_two tests test
first_of_two (refused n p ∷ tests) test = refl

-- what answers for a row, and then for one test more, answers for the longer row
pub or_test : (tests : List Verdict) (v w test r : Verdict) → v ≡ first_refusal tests → w ≡ test
    → r ≡ first_refusal (v ∷ w ∷ []) → r ≡ first_refusal (tests ++ test ∷ [])
or_test tests v w test r row one e = rw (row, one) at e ∙ first_of_two tests test

-- where the row in front refuses, it answers for the whole row
pub row_stops : (tests rest : List Verdict) (v : Verdict) (b : Bool) → v ≡ first_refusal tests → b ≡ refuses v → b ≡ true
    → v ≡ first_refusal (tests ++ rest)
unfolding first_refusal
row_stops [] rest v b e r t = absurd (passed (sym (ap refuses e) ∙ sym r ∙ t))
row_stops (passes ∷ tests) rest v b e r t = row_stops tests rest v b e r t
row_stops (refused n p ∷ tests) rest v b e r t = e

-- where it passes, the rest of the row answers
pub row_goes_on : (tests rest : List Verdict) (v : Verdict) (b : Bool) (last : Verdict) → v ≡ first_refusal tests → b ≡ refuses v → b ≡ false
    → last ≡ first_refusal rest → last ≡ first_refusal (tests ++ rest)
unfolding first_refusal
row_goes_on [] rest v b last e r f k = k
row_goes_on (passes ∷ tests) rest v b last e r f k = row_goes_on tests rest v b last e r f k
row_goes_on (refused n p ∷ tests) rest v b last e r f k = absurd (failed (sym (ap refuses e) ∙ sym r ∙ f))

-- and each of its tests passes
pub row_passed : (tests : List Verdict) (v : Verdict) (b : Bool) → v ≡ first_refusal tests → b ≡ refuses v → b ≡ false → AllPass tests
row_passed tests v b e r f = all_pass tests (did_pass v (first_refusal tests) b e r f)

-- ---- one test
-- where a test passed, its condition does not hold
pub not_refused : (b : Bool) (n p : ℕ) → refused_if b n p ≡ passes → b ≡ false
not_refused true n p e = absurd (never_both n p e)
not_refused false n p e = refl

-- where the condition is a negation and the test passed, what it negates holds
pub so : (b : Bool) (n p : ℕ) → refused_if (not b) n p ≡ passes → b ≡ true
so true n p e = refl
so false n p e = absurd (never_both n p e)

-- where a test refused, its condition holds, and number and place are the test's own
pub refused_by : (b : Bool) (n p m q : ℕ) → refused_if b n p ≡ refused m q → (b ≡ true) × ((m ≡ n) × (q ≡ p))
refused_by true n p m q e = (refl, (cc, cc))
refused_by false n p m q e = absurd (never_both m q (sym e))

-- ---- a lent list afterwards
-- a call that is refused leaves what was lent to it as it was
pub refusal_leaves : {A : Type 0} (v : Verdict) (new old : List A) → refuses v ≡ true → old ≡ after_verdict v new old
refusal_leaves passes new old h = absurd (true≢false (sym h))
refusal_leaves (refused number place) new old h = refl
