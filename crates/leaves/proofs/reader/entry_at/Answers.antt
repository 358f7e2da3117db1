-- `leaves::reader::entry_at` meets its contract: within the slice the triangle's number, past its end nothing.
use borrow.Author.Tests.{lt-ltb, le-ltb}
use Rattle.spec_tree.specs.Leaves.{entry_at}
use Rattle.leaves.proofs.reader.entry_at.Goals as goal

pub returns-then-i-slice : goal.returns-then-i-slice
unfolding entry_at
returns-then-i-slice c = rw (lt-ltb _ _ c.if-i-slice.true)

pub returns-else-i-slice : goal.returns-else-i-slice
unfolding entry_at
returns-else-i-slice c = rw (le-ltb _ _ c.if-i-slice.false)
