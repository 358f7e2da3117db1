-- The search of the order list for the first entry that is out of range or repeated, by marks: a loop marks each entry, and stops at one that
-- is too large or marked already.
use mathlib.Core.Path.{◌≡◌, sym, ap, ◌∙◌}
use mathlib.Core.Bool.{Bool, true, false, not, ◌||◌, or-true, or-false}
use mathlib.Core.List.{List, [], ◌∷◌, ◌++◌}
use Prim.Native.Nat.{ℕ, ◌+◌, ◌≤◌, ◌<◌}
use native.Mathlib.Decide.{ℕ_discrete}
use native.Mathlib.Numerals.{add-one}
use native.Mathlib.Omega.{arith}
use borrow.Author.Count.{below_none, below_more}
use borrow.Author.Tests.{eq-eqb, ne_eqb, lt-ltb, le-ltb}
use lib.Dec.{eqb}
use lib.ListN.{length, get_or, take, set, replicate, length-set, get_or-replicate, length-replicate}
use lib.Seq.{take-suc, get_or-set_same, get_or-set_other}
use Rattle.spec_tree.specs.Order.{occurs, Unmarked}
use Rattle.spec_tree.specs.Reasons.{first_failing, is_new}
use Rattle.spec_tree.proofs.Order.{occurs_append}
use Rattle.spec_tree.proofs.Failing.{none_fails, fails_at}

-- the first i entries are each new, and those that occur among them are marked
pub record Marked (n : ℕ) (order : List ℕ) (seen : List Bool) (i : ℕ) : Type 0 where
  pub within : i ≤ length order
  pub room : n ≤ length seen
  pub new : (j : ℕ) → j < i → is_new n order j ≡ true
  pub marks : (k : ℕ) → k < n → get_or seen k false ≡ occurs k (take i order)

-- start: no entry was read, and no mark is set
pub marked_none : (n : ℕ) (order : List ℕ) (seen : List Bool) → Unmarked n seen → Marked n order seen 0
unfolding occurs
marked_none n order seen u = record { within = omega arith; room = u.room; new = below_none _; marks = u.unset }

-- a fresh array of marks has none set, so the loop can start with it
pub all_unmarked : (n most : ℕ) → n ≤ most → Unmarked n (replicate most false)
all_unmarked n most h =
    record { room = omega (arith, length-replicate most false); unset = λ k w. get_or-replicate most k false false (omega arith) }

-- the entry at i
module _ (n : ℕ) (order : List ℕ) (seen : List Bool) (i : ℕ) (s : Marked n order seen i) (h : i < length order) (here : ℕ) (p : here ≡ get_or order i 0) where
  one_more : take (i + 1) order ≡ take i order ++ (here ∷ [])
  one_more = rw (p, add-one i) (take-suc order i 0 h)

  one_mark : (k : ℕ) → k < n → here < n → Dec (k ≡ here) → get_or (set seen here true) k false ≡ (occurs k (take i order) || (eqb here k || false))
  one_mark k w b (yes e) =
      ap (λ (j : ℕ). get_or (set seen here true) j false) e
      ∙ get_or-set_same seen here true false (omega (arith, s.room))
      ∙ sym (rw (eq-eqb here k (sym e)) (or-true (occurs k (take i order))))
  one_mark k w b (no e) =
      get_or-set_other seen here k true false e ∙ s.marks k w ∙ sym (rw (ne_eqb here k (λ q. e (sym q))) (or-false (occurs k (take i order))))

  -- whether it is new: by its size and its mark
  by_mark : here < n → (seen-it : Bool) → get_or seen here false ≡ seen-it → is_new n order i ≡ not seen-it
  unfolding is_new
  by_mark b seen-it f = rw (← p, lt-ltb here n b, sym (s.marks here b) ∙ f)

  -- turn: an entry below n that had no mark is new, and gets one
  pub marked_more : here < n → get_or seen here false ≡ false → Marked n order (set seen here true) (i + 1)
  unfolding occurs
  marked_more b f =
      record {
        within = omega arith;
        room = omega (arith, length-set seen here true, s.room);
        new = below_more _ _ s.new (by_mark b false f);
        marks = λ k w. rw (one_more, occurs_append k (take i order) (here ∷ [])) (one_mark k w b (ℕ_discrete k here));
      }

  -- early end: an entry that is not below n is the first that is not new
  pub marked_large : n ≤ here → first_failing (is_new n order) (length order) ≡ i
  unfolding is_new
  marked_large b = fails_at (is_new n order) (length order) i s.new h (rw (← p, le-ltb here n b))

  -- early end: so is an entry that has a mark already
  pub marked_twice : here < n → get_or seen here false ≡ true → first_failing (is_new n order) (length order) ≡ i
  marked_twice b f = fails_at (is_new n order) (length order) i s.new h (by_mark b true f)

-- end: all entries were marked, so each is new
pub marked_all : (n : ℕ) (order : List ℕ) (seen : List Bool) (i : ℕ) → Marked n order seen i → length order ≤ i
    → first_failing (is_new n order) (length order) ≡ i
marked_all n order seen i s h =
    none_fails (is_new n order) (length order) (λ k w. s.new k (omega arith)) ∙ omega (arith, s.within)
