-- The loop that writes digits from the last one backwards: its invariant, and what it leaves.
use mathlib.Core.Path.{◌≡◌, refl, sym, ap, ◌∙◌}
use mathlib.Core.List.{List, [], ◌∷◌, ◌++◌, append-nil}
use Prim.Native.Nat.{ℕ, ◌+◌, ◌/◌, ◌%◌, ◌≤◌}
use native.Mathlib.Nat.{add-zero}
use native.Mathlib.Omega.{arith}
use lib.ListN.{length, set, length-set}
use Rattle.spec_tables.specs.Tables.{overwrite, Put}
use Rattle.spec_printing.specs.Printed.{digit, digits}
use Rattle.spec_tables.proofs.Tables.{overwrite_none, set_before}
use Rattle.spec_printing.proofs.Numbers.{digits_split, length_digits}

-- all but the first `remaining` digits stand; `rest` is what those are the digits of
pub record Backwards (base at count n : ℕ) (old out : List ℕ) (remaining rest : ℕ) : Type 0 where
  pub tail : List ℕ
  pub split : digits base count n ≡ digits base remaining rest ++ tail
  pub filled : out ≡ overwrite (at + remaining) tail old
  pub sized : remaining + length tail ≡ count
  pub long : length out ≡ length old

module _ (base at count n : ℕ) (old : List ℕ) where
  -- before the first turn no digit is written
  pub back_start : Backwards base at count n old old count n
  back_start = record { tail = []; split = sym (append-nil _); filled = sym (overwrite_none (at + count) old); sized = add-zero count; long = refl }

  -- a turn of the loop writes the lowest digit of the rest in front of the others
  pub back_more : (out : List ℕ) (remaining rest d less : ℕ) → at + count ≤ length old → remaining ≡ less + 1 → d ≡ digit (rest % base)
      → Backwards base at count n old out remaining rest
      → Backwards base at count n old (set out (at + less) d) less (rest / base)
  back_more out remaining rest d less room e f r =
      let place : at + remaining ≡ at + less + 1 = omega arith in
      let fit : at + less + 1 + length r.tail ≤ length old = omega (arith, r.sized) in
      record {
        tail = d ∷ r.tail;
        split =
            r.split ∙ ap (λ (k : ℕ). digits base k rest ++ r.tail) e ∙ digits_split base less rest r.tail
            ∙ ap (λ (k : ℕ). digits base less (rest / base) ++ (k ∷ r.tail)) (sym f);
        filled =
            ap (λ (l : List ℕ). set l (at + less) d) (r.filled ∙ ap (λ (k : ℕ). overwrite k r.tail old) place) ∙ set_before (at + less) d r.tail old fit;
        sized = omega (arith, r.sized);
        long = length-set out (at + less) d ∙ r.long;
      }

  -- after the last turn all digits stand in their place
  pub back_end : (out : List ℕ) (remaining rest : ℕ) → at + count ≤ length old → remaining ≤ 0 → Backwards base at count n old out remaining rest
      → Put at (digits base count n) old out (at + count)
  unfolding digits
  back_end out remaining rest room e r =
      let z : remaining ≡ 0 = omega arith in
      let long : length (digits base count n) ≡ count = length_digits base count n in
      let all : digits base count n ≡ r.tail = r.split ∙ ap (λ (k : ℕ). digits base k rest ++ r.tail) z in
      record {
        written =
            r.filled ∙ ap (λ (k : ℕ). overwrite (at + k) r.tail old) z ∙ ap (λ (k : ℕ). overwrite k r.tail old) (add-zero at)
            ∙ ap (λ (l : List ℕ). overwrite at l old) (sym all);
        behind = omega arith;
        within = room;
      }
