-- A coordinate is finite, and stays a coordinate when it is read plus zero. The first bad number of a list is bad, and those before it
-- are not: so the place that a refusal reports is determined.
use mathlib.Core.Path.{◌≡◌, refl, ap}
use mathlib.Core.Bool.{Bool, true, false, not, cond}
use mathlib.Core.List.{List, [], ◌∷◌, ◌++◌}
use Prim.Native.Nat.{ℕ, zero, suc, ◌+◌, ◌≤◌, ◌<◌}
use native.Mathlib.Nat.{lt_trans}
use native.Mathlib.Decide.{dec_lt}
use native.Mathlib.Numerals.{add-one}
use native.Mathlib.Omega.{arith}
use lib.Dec.{T, T_not}
use lib.ListN.{length, get_or, drop, drop_of_length-le}
use lib.Seq.{drop-cons}
use lib.Ieee.{Float, nan, inf, fin, le, neg}
use lib.Ieee.Fits.{and_l, and_r}
use lib.Ieee.Scale.{finite}
use Rattle.spec_numbers.specs.Values.{plus_zero}
use Rattle.spec_numbers.proofs.Order.{finite_between}
use Rattle.spec_lists.specs.Limits.{furthest_coordinate}
use Rattle.spec_lists.specs.Refusals.{is_coordinate, first_bad}
use Rattle.spec_lists.specs.Passed.{AllCoordinates, FirstBad}

-- ---- one number
-- a coordinate is not below the range, which bounds what is worked out from it
pub coordinate_at_least : (x : Float) → T (is_coordinate x) → T (le (neg furthest_coordinate) x)
unfolding is_coordinate
coordinate_at_least x h = and_l (le (neg furthest_coordinate) x) (le x furthest_coordinate) h

-- a coordinate is not above the range, which bounds what is worked out from it
pub coordinate_at_most : (x : Float) → T (is_coordinate x) → T (le x furthest_coordinate)
unfolding is_coordinate
coordinate_at_most x h = and_r (le (neg furthest_coordinate) x) (le x furthest_coordinate) h

-- a coordinate is finite: the range test keeps out infinities and NaNs
pub coordinate_finite : (x : Float) → T (is_coordinate x) → T (finite x)
unfolding neg
coordinate_finite x h = finite_between (neg furthest_coordinate) x furthest_coordinate tt tt (coordinate_at_least x h) (coordinate_at_most x h)

-- a coordinate plus zero is a coordinate, so what is read is in range
pub coordinate_plus_zero : (x : Float) → T (is_coordinate x) → T (is_coordinate (plus_zero x))
unfolding is_coordinate le
coordinate_plus_zero (inf true) h = h
coordinate_plus_zero (fin s zero e) h = tt
coordinate_plus_zero (fin s (suc m) e) h = h
coordinate_plus_zero nan h = elim h [ ]
coordinate_plus_zero (inf false) h = elim h [ ]

-- ---- the first bad number of a list
good_before : (xs : List Float) (i : ℕ) → i < first_bad xs → T (is_coordinate (get_or xs i nan))
unfolding first_bad
good_before [] i h = absurd (omega arith)
good_before (x ∷ xs) i h = go (is_coordinate x) (λ t. t) i h (good_before xs)
  where
    go : (b : Bool) → (T b → T (is_coordinate x)) → (i : ℕ) → i < cond b (suc (first_bad xs)) 0
        → ((j : ℕ) → j < first_bad xs → T (is_coordinate (get_or xs j nan)))
        → T (is_coordinate (get_or (x ∷ xs) i nan))
    go true here zero h rest = here tt
    go true here (suc i) h rest = rest i (omega arith)
    go false here i h rest = absurd (omega arith)

first_bad_is_bad : (xs : List Float) → first_bad xs < length xs → T (not (is_coordinate (get_or xs (first_bad xs) nan)))
unfolding first_bad
first_bad_is_bad [] h = absurd (omega arith)
first_bad_is_bad (x ∷ xs) h = go (is_coordinate x) (λ t. t) h (first_bad_is_bad xs)
  where
    go : (b : Bool) → (T (not b) → T (not (is_coordinate x))) → cond b (suc (first_bad xs)) 0 < suc (length xs)
        → (first_bad xs < length xs → T (not (is_coordinate (get_or xs (first_bad xs) nan))))
        → T (not (is_coordinate (get_or (x ∷ xs) (cond b (suc (first_bad xs)) 0) nan)))
    go true here h rest = rest (omega arith)
    go false here h rest = here tt

-- the index that the search gives is that of the first bad number
pub first_bad_lem : (xs : List Float) → first_bad xs < length xs → FirstBad xs (first_bad xs)
first_bad_lem xs h = record { inside = h; bad = first_bad_is_bad xs h; before = good_before xs }

-- there is only one such index, so a refusal can report no other
pub first_bad_unique : (xs : List Float) (i : ℕ) → FirstBad xs i → first_bad xs ≡ i
first_bad_unique xs i b = go (dec_lt (first_bad xs) i) (dec_lt i (first_bad xs))
  where
    go : Dec (first_bad xs < i) → Dec (i < first_bad xs) → first_bad xs ≡ i
    go (yes l) k = absurd (T_not (is_coordinate (get_or xs (first_bad xs) nan)) (first_bad_is_bad xs (lt_trans l b.inside)) (b.before (first_bad xs) l))
    go (no m) (yes l) = absurd (T_not (is_coordinate (get_or xs i nan)) b.bad (good_before xs i l))
    go (no m) (no n) = omega arith

-- a search that came to the end met coordinates only
pub none_bad : (xs : List Float) → length xs ≤ first_bad xs → AllCoordinates xs
none_bad xs h i k = good_before xs i (omega arith)

-- over coordinates only the search comes to the end
pub all_good : (xs : List Float) → AllCoordinates xs → length xs ≤ first_bad xs
all_good xs h = go (dec_lt (first_bad xs) (length xs))
  where
    go : Dec (first_bad xs < length xs) → length xs ≤ first_bad xs
    go (yes l) = absurd (T_not (is_coordinate (get_or xs (first_bad xs) nan)) (first_bad_is_bad xs l) (h (first_bad xs) l))
    go (no n) = omega arith

-- ---- looking for it, from the front
module _ (xs : List Float) (i : ℕ) (inside : i < length xs) where
  -- a turn that stops: the number here is the first bad one
  pub bad_here : is_coordinate (get_or xs i nan) ≡ false → first_bad (drop i xs) ≡ 0
  unfolding first_bad
  bad_here e = rw (drop-cons xs i nan inside, e)

  -- a turn that goes on: the search steps over a coordinate
  pub good_here : is_coordinate (get_or xs i nan) ≡ true → first_bad (drop i xs) ≡ suc (first_bad (drop (i + 1) xs))
  unfolding first_bad
  good_here e = rw (drop-cons xs i nan inside, e, add-one)

-- the turn at the end: no number remains
pub none_remaining : (xs : List Float) (i : ℕ) → length xs ≤ i → first_bad (drop i xs) ≡ 0
unfolding first_bad
none_remaining xs i h = rw (drop_of_length-le xs h)

-- ---- the first bad number of two lists, one behind the other
-- the search never goes past the end
pub first_bad_within : (xs : List Float) → first_bad xs ≤ length xs
unfolding first_bad
first_bad_within [] = omega arith
first_bad_within (x ∷ xs) = go (is_coordinate x) (first_bad_within xs)
  where
    go : (b : Bool) → first_bad xs ≤ length xs → cond b (suc (first_bad xs)) 0 ≤ suc (length xs)
    go true h = omega arith
    go false h = omega arith

-- a bad number in the front is the first of both, so a search piece by piece may stop there
pub bad_in_front : (xs ys : List Float) → first_bad xs < length xs → first_bad (xs ++ ys) ≡ first_bad xs
unfolding first_bad
bad_in_front [] ys h = absurd (omega arith)
bad_in_front (x ∷ xs) ys h = go (is_coordinate x) h (bad_in_front xs ys)
  where
    go : (b : Bool) → cond b (suc (first_bad xs)) 0 < suc (length xs) → (first_bad xs < length xs → first_bad (xs ++ ys) ≡ first_bad xs)
        → cond b (suc (first_bad (xs ++ ys))) 0 ≡ cond b (suc (first_bad xs)) 0
    go true h rest = ap suc (rest (omega arith))
    go false h rest = refl

-- behind a front of coordinates the search goes on, so piece by piece it finds what one search of the whole does
pub good_in_front : (xs ys : List Float) → first_bad xs ≡ length xs → first_bad (xs ++ ys) ≡ length xs + first_bad ys
unfolding first_bad
good_in_front [] ys h = omega arith
good_in_front (x ∷ xs) ys h = go (is_coordinate x) h (good_in_front xs ys)
  where
    go : (b : Bool) → cond b (suc (first_bad xs)) 0 ≡ suc (length xs) → (first_bad xs ≡ length xs → first_bad (xs ++ ys) ≡ length xs + first_bad ys)
        → cond b (suc (first_bad (xs ++ ys))) 0 ≡ suc (length xs) + first_bad ys
    go true h rest = omega (arith, rest (omega arith))
    go false h rest = absurd (omega arith)
