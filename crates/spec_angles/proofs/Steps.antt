-- The rule of the table of arc tangents, proved at all of its entries by one test that antt computes (`step`), its ends, and a bound on every entry.
use mathlib.Core.Path.{◌≡◌, refl, sym, ap, ◌∙◌, subst}
use mathlib.Core.Bool.{Bool, true, ◌&&◌}
use mathlib.Core.List.{List, [], ◌∷◌}
use Prim.Native.Nat.{ℕ, zero, suc, ◌+◌, ◌^◌, ◌≤◌, ◌<◌}
use native.Mathlib.Nat.{add-zero, zero-add, add-suc, suc-add, le_of_suc-le-suc, le_of_lt, le_of_eq, le_trans}
use native.Mathlib.Decide.{dec_lt}
use native.Mathlib.Numerals.{add-one}
use native.Mathlib.Omega.{arith}
use lib.Dec.{T, leb, ltb, leb→le, ltb→lt}
use lib.ListN.{length, get_or}
use lib.Ieee.Fits.{and_l, and_r}
use Rattle.spec_angles.specs.Table.{arcs, entry}
use Rattle.spec_angles.specs.Angle.{Step, low_side, high_side, eighth_turn}

-- ---- a test of each entry's place, the entry and the next
abbrev every : (ℕ → ℕ → ℕ → Bool) → ℕ → List ℕ → Bool
every f i [] = true
every f i (x ∷ []) = true
every f i (x ∷ (y ∷ zs)) = f i x y && every f (suc i) (y ∷ zs)

at : (f : ℕ → ℕ → ℕ → Bool) (xs : List ℕ) (i : ℕ) → T (every f i xs) → (k : ℕ) → suc k < length xs → T (f (i + k) (get_or xs k 0) (get_or xs (suc k) 0))
at f [] i t k h = absurd (omega arith)
at f (x ∷ []) i t k h = absurd (omega arith)
at f (x ∷ (y ∷ zs)) i t zero h = rw add-zero (and_l (f i x y) (every f (suc i) (y ∷ zs)) t)
at f (x ∷ (y ∷ zs)) i t (suc k) h = rw (add-suc, ← suc-add) (at f (y ∷ zs) (suc i) (and_r (f i x y) (every f (suc i) (y ∷ zs)) t) k (le_of_suc-le-suc h))

-- ---- the rule, for the entries x at k and y after it
abbrev above : ℕ → ℕ → ℕ → Bool
above k x y = leb (low_side k x y) (2 ^ 40)

abbrev under : ℕ → ℕ → ℕ → Bool
under k x y = leb (2 ^ 40) (high_side k x y)

abbrev right : ℕ → ℕ → ℕ → Bool
right k x y = ltb x y && (above k x y && (under k x y && leb y eighth_turn))

passes : T (every right 0 arcs)
unfolding arcs
passes = tt

many : length arcs ≡ 1025
unfolding arcs
many = refl

module _ (k : ℕ) (h : k < 1024) where
  x : ℕ
  x = entry k

  y : ℕ
  y = entry (k + 1)

  at_entry : T (right k x y)
  unfolding entry x y
  at_entry = subst (λ (m : ℕ). T (right k (entry k) (entry m))) (sym (add-one k)) (rw (zero-add k) at (at right arcs 0 passes k (rw many (omega arith))))

  bounds : T (above k x y && (under k x y && leb y eighth_turn))
  bounds = and_r (ltb x y) (above k x y && (under k x y && leb y eighth_turn)) at_entry

  ends : T (under k x y && leb y eighth_turn)
  ends = and_r (above k x y) (under k x y && leb y eighth_turn) bounds

  -- every step of the table is within one of what the slope of the arc tangent allows: no entry is out of line
  pub step : Step k
  unfolding x y
  step = record {
    rises = ltb→lt x y (and_l (ltb x y) (above k x y && (under k x y && leb y eighth_turn)) at_entry);
    most = leb→le (low_side k x y) (2 ^ 40) (and_l (above k x y) (under k x y && leb y eighth_turn) bounds);
    least = leb→le (2 ^ 40) (high_side k x y) (and_l (under k x y) (leb y eighth_turn) ends);
  }

  next_most : entry (k + 1) ≤ eighth_turn
  unfolding y
  next_most = leb→le y eighth_turn (and_r (under k x y) (leb y eighth_turn) ends)

-- ---- the ends, and a bound on every entry
-- the table begins at the angle zero
pub entry_0 : entry 0 ≡ 0
unfolding entry arcs
entry_0 = refl

-- the table ends at an eighth of a turn, the arc tangent of 1
pub entry_1024 : entry 1024 ≡ eighth_turn
unfolding entry arcs
entry_1024 = refl

-- no entry is more than an eighth of a turn, so the program's words hold them
pub entry_most : (k : ℕ) → k < 1025 → entry k ≤ eighth_turn
entry_most k h = go (dec_lt k 1024)
  where
    go : Dec (k < 1024) → entry k ≤ eighth_turn
    go (yes l) = le_trans (le_of_lt (step k l).rises) (next_most k l)
    go (no g) = le_of_eq (ap entry (omega arith) ∙ entry_1024)
