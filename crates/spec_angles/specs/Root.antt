-- The square root, rounded once, over whole numbers: what it is, and a function that gives it. For any format.
-- A finite float stands for the fraction num / den, and is negative by its sign alone.
use Rattle.std.specs.Prelude.{Bool, false, true, cond, ℕ, zero, suc, ◌+◌, ◌-◌, ◌*◌, ◌/◌, ◌^◌, ◌≤◌, ◌<◌, T, eqb, ltb, leb, Float}
use Rattle.std.specs.Float.{nan, inf, fin, Format}
use Rattle.std.specs.Float.Ieee.{prec, low, size, round, fits, lt}
use Rattle.std.specs.Float.Ieee.Positive.{num, den}
use Rattle.spec_numbers.specs.Values.{unsigned}

-- what a root may be asked of: a finite number that is not negative; both zeros are among them
abbrev pub rootable : Float → Bool
rootable nan = false
rootable (inf s) = false
rootable (fin false m e) = true
rootable (fin true m e) = eqb m 0

abbrev pub square : ℕ → ℕ
square n = n * n

-- ---- what the root is
-- √x < (r + y) / 2, that is 4x < (r + y)²: the root of x lies below the middle of r and y. The denominators are multiplied out.
abbrev pub BelowMiddle : (x r y : Float) → Type 0
BelowMiddle x r y = 4 * num x * square (den r * den y) < square (num r * den y + num y * den r) * den x

-- the root of x lies above the middle of r and y
abbrev pub AboveMiddle : (x r y : Float) → Type 0
AboveMiddle x r y = square (num r * den y + num y * den r) * den x < 4 * num x * square (den r * den y)

-- r is the value of the format f that is nearest the exact root of x: of r and any other value y that is not negative, r is the nearer.
-- The comparisons are strict, so there is never a tie. (A negative y is farther from a root than 0 is.)
pub record IsRoot (f : Format) (x r : Float) : Type 0 where
  pub holds : T (fits f r)
  pub is_unsigned : T (unsigned r)
  pub above : (y : Float) → T (fits f y) → T (unsigned y) → T (lt r y) → BelowMiddle x r y
  pub under : (y : Float) → T (fits f y) → T (unsigned y) → T (lt y r) → AboveMiddle x r y

-- ---- the root as a function. That it is the root is a law, `root_is_nearest`, and by `root_unique` it is the only one
-- a binary digit more: r is twice the root of n / 4
abbrev pub digit : ℕ → ℕ → ℕ
digit n r = cond (leb (square (r + 1)) n) (r + 1) r

-- the root of an n below 4 ^ d, cut to a whole number
unfoldable pub whole_root : ℕ → ℕ → ℕ
whole_root zero n = 0
whole_root (suc d) n = digit n (2 * whole_root d (n / 4))

-- r, or the next number where the root of n is nearer to it
abbrev pub nearer : ℕ → ℕ → ℕ
nearer n r = cond (ltb r (n - square r)) (r + 1) r

-- the root of n * 4 ^ k units times 2 ^ low, for an n whose root has the format's digits
unfoldable pub root_by : Format → ℕ → ℕ → Float
root_by f n k = round f false (nearer n (whole_root (prec f) n) * 2 ^ k) (2 ^ low f)

-- the root of a / 2 ^ low units: a is written n * 4 ^ k, and k is such that nothing of a is lost
unfoldable pub root_in : Format → ℕ → Float
root_in f a =
    let k = (size a + 1) / 2 - prec f in
    root_by f (a / square (2 ^ k)) k

-- In units of the least value, 2 ^ -low, x is num x * 2 ^ low / den x, and its root is the root of that times 2 ^ low. The root of -0 is +0.
unfoldable pub root : Format → Float → Float
root f x = root_in f (num x * 2 ^ low f / den x * 2 ^ low f)

-- the root, and a NaN where there is none
unfoldable pub root_or_nan : Format → Float → Float
root_or_nan f x = cond (rootable x) (root f x) nan

-- ---- what `whole_root` and `nearer` find
-- r is the root of n cut to a whole number
pub record WholeRoot (n r : ℕ) : Type 0 where
  pub low : r * r ≤ n
  pub high : n < (r + 1) * (r + 1)

-- r is the root of n to the nearest whole number: r - 1/2 < √n < r + 1/2
pub record Near (n r : ℕ) : Type 0 where
  pub low : square (2 * r - 1) < 4 * n
  pub high : 4 * n < square (2 * r + 1)
