-- `printing::lines::put_word` meets its contract: the word is copied into its place.
use Prim.Native.Nat.{◌+◌, ◌-◌}
use mathlib.Core.Path.{◌≡◌, refl}
use native.Mathlib.Omega.{arith}
use lib.ListN.{length}
use lib.Seq.{drop-drop}
use Rattle.spec_tables.specs.Tables.{overwrite}
use Rattle.printing.proofs.lines.put_word.Goals as goal

pub returns : goal.returns
unfolding overwrite
returns c =
    let a = c.args in
    let size : a.at + length a.word.now - a.at ≡ length a.word.now = omega arith in
    record { written = rw (c.copy_from_slice.ensures.after, size, drop-drop); behind = refl; within = c.requires }
