-- What counts, by either rule: it is a number, what is no farther than it counts too, and what is equal to it. By the second rule all counts that
-- counts by the first, and what is exactly at the limit.
use mathlib.Core.Path.{◌≡◌, refl}
use mathlib.Core.Bool.{true, false, ◌||◌}
use lib.Dec.{T}
use lib.Ieee.{Float, Format, binary32, binary64, inf, round, mul, lt, le, eq}
use lib.Ieee.Bits.{is_true}
use Rattle.spec_numbers.specs.Values.{Number}
use Rattle.spec_numbers.proofs.Tests.{passed, failed}
use Rattle.spec_numbers.proofs.Order.{number_left, eq→le, transitive, le_lt_transitive, not_lt→le}
use Rattle.spec_numbers.proofs.Comparisons.{less_number}
use Rattle.spec_numbers.proofs.Square.{square_keeps_order, abs_grows_upward}
use Rattle.spec_lists.specs.Limits.{longest_distance}
use Rattle.spec_lists.specs.Passed.{GoodDistance}
use Rattle.spec_search.specs.Rules.{Rule, strictly_below, below_or_equal, Limit, limit_squared, counts_by, counts}

-- ---- by the rule
by_number : (rule : Rule) (squared x : Float) → counts_by rule squared x ≡ true → Number x
by_number strictly_below squared x h = less_number x squared h
by_number below_or_equal squared x h = number_left x squared (passed h)

by_no_farther : (rule : Rule) (squared x y : Float) → T (le x y) → T (counts_by rule squared y) → T (counts_by rule squared x)
by_no_farther strictly_below squared x y l h = le_lt_transitive x y squared l h
by_no_farther below_or_equal squared x y l h = transitive x y squared l h

-- ---- the laws
-- what counts is a number: a NaN is never kept
pub counts_number : (limit : Limit) (x : Float) → counts limit x ≡ true → Number x
unfolding counts
counts_number limit x h = by_number limit.rule limit.squared x h

-- what is no farther than what counts, counts
pub counts_no_farther : (limit : Limit) (x y : Float) → T (le x y) → T (counts limit y) → T (counts limit x)
unfolding counts
counts_no_farther limit x y l h = by_no_farther limit.rule limit.squared x y l h

-- a number that what counts is not below, counts: a box that does not count holds nothing that does
pub counts_nearer : (limit : Limit) (x y : Float) → Number y → lt x y ≡ false → counts limit x ≡ true → counts limit y ≡ true
counts_nearer limit x y n far h =
    is_true (counts limit y) (counts_no_farther limit y x (not_lt→le x y (counts_number limit x h) n (failed far)) (passed h))

-- what equals a distance that counts, counts
pub counts_equal : (limit : Limit) (x y : Float) → T (eq x y) → T (counts limit y) → T (counts limit x)
counts_equal limit x y e h = counts_no_farther limit x y (eq→le x y e) h

-- the second rule is the first, and what is level with the limit besides
pub revised_adds_level : (squared d : Float)
    → counts (record { rule = below_or_equal; squared = squared }) d
    ≡ (counts (record { rule = strictly_below; squared = squared }) d || eq d squared)
unfolding counts le
revised_adds_level squared d = refl

-- ---- the limit squared of a search distance in range is finite
longest_squared : (f : Format) → lt (mul f longest_distance longest_distance) (inf false) ≡ true
unfolding mul round lt
longest_squared binary32 = refl
longest_squared binary64 = refl

-- so a hit can stand at it as at any other
pub limit_bounded : (f : Format) (distance : Float) → GoodDistance distance → lt (limit_squared f distance) (inf false) ≡ true
unfolding limit_squared
limit_bounded f distance g =
    is_true (lt (mul f distance distance) (inf false))
    (le_lt_transitive _ (mul f longest_distance longest_distance) _
    (square_keeps_order f distance longest_distance (abs_grows_upward distance longest_distance g.low g.high)) (passed (longest_squared f)))
