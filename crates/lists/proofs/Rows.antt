-- A row of tests that is written `a?; b?; c`: the first that refuses answers for the row. And what the first bad number of a list answers.
use Rattle.std.proofs.Common.{◌≡◌, ℕ, List, ◌∷◌, [], Option, Some, None, Result, Ok, Err, Bool, true, false, not, cond, ltb, length, refl, ◌+◌, suc, arith}
use Rattle.std.specs.Prelude.{position, Float}
use Rattle.std.specs.List.{position_or_len}
use Rattle.std.specs.Result.{IsErr, IsErrAnd}
use Rattle.std.proofs.lemmas.Result.{err_from_is_err_and}
use Rattle.spec_lists.specs.Refusals.{Verdict, passes, refused, refused_if, first_refusal, is_coordinate, first_bad, coordinate_refusal}
use Rattle.spec_lists.proofs.Verdicts.{ends, row_stops, row_goes_on}
use Rattle.lists.specs.declared.refusal.Refusal.{Refusal}
use Rattle.lists.specs.Values.{number_of, place_of, as_verdict}

-- a test that refuses answers for the row
pub refused_first : (n p : ℕ) (test : Verdict) (tests : List Verdict) → refused n p ≡ test → refused n p ≡ first_refusal (test ∷ tests)
refused_first n p test tests e = row_stops (test ∷ []) tests (refused n p) true (ends _ _ e) refl refl

-- a test that passes leaves the answer to the rest of the row
pub passed_first : (v test : Verdict) (tests : List Verdict) → passes ≡ test → v ≡ first_refusal tests → v ≡ first_refusal (test ∷ tests)
passed_first v test tests e k = row_goes_on (test ∷ []) tests passes false v (ends _ _ e) refl refl k

-- the last test answers for the row
pub last : (v test : Verdict) → v ≡ test → v ≡ first_refusal (test ∷ [])
last v test e = ends v test e

-- what a `?` hands on is the refusal that it met
pub handed : {A : Type 0} (r : Result A Refusal) (e : Refusal) → IsErrAnd r (λ x. x ≡ e) → r ≡ Err e
handed r e h = let p = err_from_is_err_and r h in rw (p.1, p.2) refl

-- so it answers as the test did that refused
pub handed_on : (r : Result (Unit {0}) Refusal) (e : Refusal) (v : Verdict) → IsErrAnd r (λ x. x ≡ e)
    → refused (number_of e) (place_of e) ≡ v → as_verdict r ≡ v
handed_on r e v h k = rw (handed r e h) k

-- the first bad number of a list, as the answer of a test with this number
abbrev pub told : ℕ → Option ℕ → Verdict
told number (Some at) = refused number at
told number None = passes

bad_place : (xs : List Float) → position_or_len (λ x. not (is_coordinate x)) xs ≡ first_bad xs
unfolding first_bad
bad_place [] = refl
bad_place (x ∷ xs) = step (is_coordinate x) _ _ (bad_place xs)
  where
    step : (b : Bool) (m n : ℕ) → m ≡ n → cond (not (not b)) (1 + m) 0 ≡ cond b (suc n) 0
    step true m n e = omega arith
    step false m n e = refl

told_by : (number : ℕ) (b : Bool) (at : ℕ) → told number (cond b (Some at) None) ≡ refused_if b number at
told_by number true at = refl
told_by number false at = refl

-- it is the definition's
pub told-bad : (number : ℕ) (xs : List Float) (found : Option ℕ) → found ≡ position (λ x. not (is_coordinate x)) xs
    → told number found ≡ coordinate_refusal number xs
unfolding coordinate_refusal
told-bad number xs found e =
    let k = bad_place xs in rw (e, k) (told_by number (ltb (first_bad xs) (length xs)) (first_bad xs))
