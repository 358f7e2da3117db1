-- A part of a list that was written over: the words of the library, and those of the definitions.
use Rattle.std.proofs.Common.{◌≡◌, ℕ, ◌+◌, ◌≤◌, List, ◌++◌, length, take, drop, replicate, refl, ap, ◌∙◌}
use native.Mathlib.Nat.{zero-add}
use lib.ListN.{length-replicate}
use lib.Seq.{drop-drop, length-take-le}
use Rattle.spec_tables.specs.Tables.{overwrite}
use borrow.Rule.Slice.PartMut.{put_mid}

-- a part of as many elements as are new, written over, is the list overwritten there
pub part_overwritten : {A : Type 0} (at size : ℕ) (old new : List A) → size ≡ length new → put_mid at size old new ≡ overwrite at new old
unfolding overwrite
part_overwritten {A} at size old new e =
    ap (λ (l : List A). take at old ++ (new ++ l)) (drop-drop size at old ∙ ap (λ (k : ℕ). drop (at + k) old) e)

-- a front of k entries that came back as long as it was lent, and was then filled with one value, is the list overwritten there
pub front_filled : {A : Type 0} (k : ℕ) (x : A) (back filled old : List A) → k ≤ length old → length back ≡ length (take k old)
    → filled ≡ replicate (length back) x → filled ++ drop k old ≡ overwrite 0 (replicate k x) old
unfolding overwrite
front_filled k x back filled old room same e =
    let long : length back ≡ k = same ∙ length-take-le k old room in
    rw (e, long, length-replicate k x, zero-add k) refl
