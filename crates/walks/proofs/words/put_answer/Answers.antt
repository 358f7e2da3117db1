-- `walks::words::put_answer` meets its contract: the words, zeros or those of what was found, are one write.
use mathlib.Core.Path.{◌≡◌}
use mathlib.Core.List.{List}
use Prim.Native.Nat.{ℕ, ◌+◌, ◌-◌}
use native.Mathlib.Omega.{arith}
use lib.ListN.{length}
use lib.Seq.{drop-drop}
use lib.Ieee.{binary32}
use borrow.Rule.Slice.PartMut.{put_mid}
use Rattle.spec_tables.specs.Tables.{overwrite}
use Rattle.spec_search.specs.Answers.{words_of}
use Rattle.spec_search.proofs.Calls.{answer_wide}
use Rattle.walks.specs.Values.{as_answer}
use Rattle.walks.proofs.words.put_answer.Goals as goal
use Rattle.walks.proofs.words.put_answer.Goals.{in-None, in-Some}

one_write : (at : ℕ) (old new : List ℕ) → length new ≡ 7 → put_mid at (at + 7 - at) old new ≡ overwrite at new old
unfolding overwrite
one_write at old new long =
    let same : at + (at + 7 - at) ≡ at + length new = omega arith in
    rw (drop-drop, same)

pub returns : goal.returns
unfolding words_of
returns c =
    let words : c.match-answer.words ≡ words_of binary32 (as_answer c.args.answer) =
    elim c.match-answer.branch [
      | in-None w ↦ rw w.in-None.is w.words-is
      | in-Some w ↦ rw (w.in-Some.is, ← w.bits_of.ensures, ← w.bits_of-in-Some.ensures, ← w.bits_of-in-Some-2.ensures, ← w.bits_of-in-Some-3.ensures) w.words-is
    ] in
    rw (c.copy_from_slice.ensures.after, words) (one_write _ _ _ (answer_wide binary32 (as_answer c.args.answer)))
